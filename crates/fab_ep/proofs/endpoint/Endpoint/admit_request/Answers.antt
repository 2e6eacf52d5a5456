use Rattle.fab_ep.proofs.Admitting.{faulted}
use Rattle.fab_ep.proofs.endpoint.Endpoint.admit_request.Goals as goal

pub returns-in-Some-clause-err : goal.returns-in-Some-clause-err
returns-in-Some-clause-err g c = λ buf. rw (← c.self.view_is) (faulted g.P.Port.FIXED _ _ c.in-Some.why (c.in-Some.ensures.some buf) c.in-Some.ensures.lasting)
