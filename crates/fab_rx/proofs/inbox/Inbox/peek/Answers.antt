use Rattle.std.proofs.Common.{◌≡◌, ◌∙◌, None, Some, sym, ap, refl, rules}
use Rattle.std.specs.Prelude.{find}
use Rattle.fab_model.specs.Matching.{takes}
use Rattle.fab_rx.proofs.Finding.{none_found, message_there, found_seen}
use Rattle.fab_rx.proofs.inbox.Inbox.peek.Goals as goal

pub returns-in_default : goal.returns-in_default
returns-in_default g c =
    let none : find (takes c.args.want.now) c.self.inside.past.rx.unexpected ≡ None = none_found _ _ _ _ _ _ _ c.self.invariant.kept c.args.want.now (search rules) in
    rw (← c.self.view_is, none) refl

pub unreachable-requires : goal.unreachable-requires
unreachable-requires g c = message_there _ _ _ _ _ _ _ c.self.invariant.kept c.args.want.now c.in-Some.id (sym c.in-Some.ensures.first) (search rules)

pub returns : goal.returns
returns g c = rw (← c.self.view_is) (ap Some c.seen.ensures ∙ found_seen _ _ _ _ _ _ _ c.self.invariant.kept c.args.want.now c.in-Some.id (sym c.in-Some.ensures.first) c.in-Some-get.parcel.now (search rules))
