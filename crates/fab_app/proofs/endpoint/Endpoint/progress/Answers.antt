use Rattle.std.proofs.Common.{ap, subst, ◌∙◌}
use Rattle.fab_face.specs.Held.{Seen}
use Rattle.fab_app.specs.Cleared.{cleared}
use Rattle.fab_app.specs.Progresses.{Moves}
use Rattle.fab_app.proofs.Polling.{moves_from}
use Rattle.fab_app.proofs.endpoint.Endpoint.progress.Goals as goal

pub returns : goal.returns
returns g c =
    let seen = g.E.Sees.seen in
    subst (λ (x : Seen g.E.Sees.Home). Moves g.E.Sees.fixed c.args.budget x (seen c.progress.new.self) c.next_of.result) (c.log_clear.ensures ∙ ap (λ e. cleared (seen e)) c.self.view_is)
    (moves_from g.E.Sees.fixed c.args.budget (seen c.log_clear.new.self) (seen c.progress.new.self) c.progress.result c.next_of.result
    c.known.ensures (ap (λ (x : Seen g.E.Sees.Home). x.log) c.log_clear.ensures) c.progress.ensures c.next_of.ensures)
