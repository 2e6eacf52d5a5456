use Rattle.std.proofs.Common.{◌∙◌, refl, ap}
use Rattle.std.specs.Prelude.{is_some}
use Rattle.fab_rx.proofs.Drawing.{due_where}
use Rattle.fab_rx.proofs.inbox.Inbox.is_draw_due.Goals as goal

pub returns : goal.returns
returns g c = rw (← c.self.view_is) (c.is_some.ensures ∙ ap is_some c.first_drawing.ensures ∙ due_where _ _ _ _ _ _ _ c.self.invariant.kept _ refl)
