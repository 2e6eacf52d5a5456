use Rattle.std.proofs.Common.{ap, subst, ◌∙◌}
use Rattle.fab_face.specs.Held.{Seen}
use Rattle.fab_app.specs.Cleared.{cleared}
use Rattle.fab_app.specs.Polls.{Polls}
use Rattle.fab_app.proofs.Polling.{polls_from}
use Rattle.fab_app.proofs.endpoint.Endpoint.poll.Goals as goal

pub returns : goal.returns
returns g c =
    let seen = g.E.Sees.seen in
    subst (λ (x : Seen g.E.Sees.Home). Polls g.E.Sees.fixed c.args.budget x (seen c.take_first.new.endpoint) c.take_first.result) (c.log_clear.ensures ∙ ap (λ e. cleared (seen e)) c.self.view_is)
    (polls_from g.E.Sees.fixed c.args.budget (seen c.log_clear.new.self) (seen c.progress-moved.new.self) (seen c.take_first.new.endpoint) c.progress-moved.result c.take_first.result
    c.known.ensures c.known-2.ensures (ap (λ (x : Seen g.E.Sees.Home). x.log) c.log_clear.ensures) c.progress-moved.ensures c.take_first.ensures)
