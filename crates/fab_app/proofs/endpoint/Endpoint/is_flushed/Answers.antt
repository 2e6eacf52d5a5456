use Rattle.std.proofs.Common.{sym, ◌∙◌}
use Rattle.std.proofs.lemmas.Bool.{eqb-true}
use Rattle.fab_app.proofs.Ended.{none_in_use}
use Rattle.fab_app.proofs.endpoint.Endpoint.is_flushed.Goals as goal

pub returns-then-deferred-eq0-clause-ended : goal.returns-then-deferred-eq0-clause-ended
returns-then-deferred-eq0-clause-ended g c =
    λ is. none_in_use (g.E.Sees.seen c.args.self.now).held.state (sym c.deferred.ensures ∙ c.if-deferred-eq0.true) (sym c.awaiting.ensures ∙ eqb-true c.awaiting.result 0 is)
