use Rattle.std.proofs.Common.{◌≡◌, ◌∙◌, None, Some, sym, ap, refl, rules}
use Rattle.std.specs.Prelude.{find}
use Rattle.fab_model.specs.Matching.{takes}
use Rattle.fab_match.specs.Signs.{fits}
use Rattle.fab_match.proofs.Pairs.{without-first}
use Rattle.fab_rx.proofs.Finding.{first_found, found_seen, message_there, none_found}
use Rattle.fab_rx.proofs.Parting.{aside_claims, aside_kept, claiming_is}
use Rattle.fab_rx.proofs.inbox.Inbox.claim.Goals as goal

pub returns-in_default-clause-new : goal.returns-in_default-clause-new
returns-in_default-clause-new g c =
    let none : find (takes c.args.want.now) c.self.inside.past.rx.unexpected ≡ None = none_found _ _ _ _ _ _ _ c.self.invariant.kept c.args.want.now (search rules) in
    rw (← c.self.view_is, none) refl

pub returns-in_default-clause-seen : goal.returns-in_default-clause-seen
returns-in_default-clause-seen g c =
    let none : find (takes c.args.want.now) c.self.inside.past.rx.unexpected ≡ None = none_found _ _ _ _ _ _ _ c.self.invariant.kept c.args.want.now (search rules) in
    rw (← c.self.view_is, none) refl

pub unreachable-requires : goal.unreachable-requires
unreachable-requires g c = message_there _ _ _ _ _ _ _ c.self.invariant.kept c.args.want.now c.in-Some.id (sym c.in-Some.ensures.first) (search rules)

pub invariant_of-self-2 : goal.invariant_of-self-2
invariant_of-self-2 g c =
    let rest = c.remove_unexpected.ensures.rest ∙ without-first (λ sign. fits c.args.want.now sign) c.in-Some.id (g.M.Matcher.unexpected c.self.inside.matcher) c.in-Some.ensures.distinct (sym c.in-Some.ensures.first) in
    let t = first_found _ _ _ _ _ _ _ c.self.invariant.kept c.args.want.now c.in-Some.id (sym c.in-Some.ensures.first) in
    rw (c.note.ensures, claiming_is c.self.inside.past c.args.want.now c.args.ctx t.member t.found, c.remove_unexpected.ensures.posted, c.remove_unexpected.ensures.room, c.push_reserved.ensures.items, c.push_reserved.ensures.capacity) (record {
      kept = aside_kept _ _ _ _ _ _ _ c.self.invariant.kept _ _ c.self.invariant.aside c.args.want.now c.args.ctx c.in-Some.id (sym c.in-Some.ensures.first) _ rest c.remove_unexpected.ensures.gone;
      numbers = c.self.invariant.numbers;
      shared = c.self.invariant.shared;
      closable = c.self.invariant.closable;
      ids = c.self.invariant.ids;
      sharing = c.self.invariant.sharing;
      aside = aside_claims _ _ _ _ _ _ _ c.self.invariant.kept _ _ c.self.invariant.aside c.args.want.now c.args.ctx c.in-Some.id (sym c.in-Some.ensures.first) _ rest c.remove_unexpected.ensures.gone;
    })

pub returns-clause-seen : goal.returns-clause-seen
returns-clause-seen g c = rw (← c.self.view_is) (ap Some c.seen.ensures ∙ found_seen _ _ _ _ _ _ _ c.self.invariant.kept c.args.want.now c.in-Some.id (sym c.in-Some.ensures.first) c.in-Some-get.parcel.now (search rules))
