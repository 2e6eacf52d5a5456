use Rattle.std.proofs.Common.{◌∙◌, List, Option, refl, ap}
use Rattle.std.specs.Prelude.{find, is_some}
use Rattle.fab_match.specs.Matcher.{ids}
use Rattle.fab_rx.specs.declared.stored.Begun.{Begun}
use Rattle.fab_rx.specs.Leaving.{may_leave_at}
use Rattle.fab_rx.proofs.Leaving.{meant_where}
use Rattle.fab_rx.proofs.inbox.Inbox.may_cancel.Goals as goal

pub returns : goal.returns
returns g c =
    let e = ap (λ (xs : List (Option Begun)). find (may_leave_at c.args.ctx c.self.inside.seats xs) (ids (g.M.Matcher.posted c.self.inside.matcher))) c.as_slice.ensures.value in
    rw (← c.self.view_is) (c.is_some.ensures ∙ ap is_some (c.first_meant.ensures ∙ e) ∙ meant_where _ _ _ _ _ _ _ c.self.invariant.kept c.self.invariant.numbers _ c.self.invariant.shared c.args.ctx _ refl)
