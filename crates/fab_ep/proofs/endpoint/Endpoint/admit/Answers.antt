use Rattle.fab_ep.proofs.Admitting.{faulted}
use Rattle.fab_ep.proofs.endpoint.Endpoint.admit.Goals as goal

pub returns-in-Some-clause-err : goal.returns-in-Some-clause-err
returns-in-Some-clause-err g c = rw (← c.self.view_is) (faulted g.P.Port.FIXED _ _ c.in-Some.why c.in-Some.ensures.some c.in-Some.ensures.lasting)
