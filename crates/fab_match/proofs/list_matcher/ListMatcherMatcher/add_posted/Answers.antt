use Rattle.std.proofs.Common.{◌≡◌, ◌<◌, ◌∙◌, ap, sym, subst, false, length, arith, length-append}
use Rattle.fab_match.specs.Matcher.{Store, has_id}
use Rattle.fab_match.proofs.Pairs.{HasDistinctIds-push}
use Rattle.fab_match.proofs.list_matcher.ListMatcherMatcher.add_posted.Goals as goal

pub invariant_of-self : goal.invariant_of-self
invariant_of-self c =
    let new : has_id c.args.id c.self.inside.posted.items ≡ false = ap (λ (s : Store). has_id c.args.id s.posted) c.self.view_is ∙ c.requires.new in
    let not_full : length c.self.inside.posted.items < c.self.inside.room = subst (λ (s : Store). length s.posted < s.room) (sym c.self.view_is) c.requires.not_full in
    record {
      posted = rw c.push_reserved.ensures.items (HasDistinctIds-push c.self.inside.posted.items c.args.id c.args.want c.self.invariant.posted new);
      unexpected = c.self.invariant.unexpected;
      within = rw (c.push_reserved.ensures.items, length-append) (omega arith);
      reserved = rw c.push_reserved.ensures.capacity c.self.invariant.reserved;
    }
