use Rattle.std.proofs.Common.{◌≡◌, ◌∙◌, ap, false}
use Rattle.fab_match.specs.Matcher.{Store, has_id}
use Rattle.fab_match.proofs.Pairs.{HasDistinctIds-push}
use Rattle.fab_match.proofs.list_matcher.ListMatcherMatcher.add_unexpected.Goals as goal

pub invariant_of-self-2 : goal.invariant_of-self-2
invariant_of-self-2 c =
    let new : has_id c.args.id c.self.inside.unexpected.items ≡ false = ap (λ (s : Store). has_id c.args.id s.unexpected) c.self.view_is ∙ c.requires.new in
    record {
      posted = c.self.invariant.posted;
      unexpected = rw c.in_ok-push.ensures.items (HasDistinctIds-push c.self.inside.unexpected.items c.args.id c.args.sign c.self.invariant.unexpected new);
      within = c.self.invariant.within;
      reserved = c.self.invariant.reserved;
    }
