use Rattle.std.proofs.Common.{None}
use Rattle.fab_ep.proofs.endpoint.Endpoint.ask.Goals as goal

pub go_out-requires-clause-granted : goal.go_out-requires-clause-granted
go_out-requires-clause-granted g c = (c.in_ok-admit_request.ensures.ok None).granted

pub go_out-requires-clause-room : goal.go_out-requires-clause-room
go_out-requires-clause-room g c = (c.in_ok-admit_request.ensures.ok None).room

pub go_out-requires-clause-places : goal.go_out-requires-clause-places
go_out-requires-clause-places g c = (c.in_ok-admit_request.ensures.ok None).left
