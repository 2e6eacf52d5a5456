use Rattle.std.proofs.Common.{Some}
use Rattle.fab_ep.proofs.endpoint.Endpoint.ask_into.Goals as goal

pub go_out-requires-clause-granted : goal.go_out-requires-clause-granted
go_out-requires-clause-granted g c = (c.in_default.ensures.ok (Some c.args.buf)).granted

pub go_out-requires-clause-room : goal.go_out-requires-clause-room
go_out-requires-clause-room g c = (c.in_default.ensures.ok (Some c.args.buf)).room

pub go_out-requires-clause-places : goal.go_out-requires-clause-places
go_out-requires-clause-places g c = (c.in_default.ensures.ok (Some c.args.buf)).left
