use Rattle.std.proofs.Common.{◌≡◌}
use Rattle.fab_port_suite.proofs.talking.gives_stream.Given as goal

abbrev pub invariant-loop-number : goal.invariant-loop-number
invariant-loop-number g l = g.P.Port.peer_count l.port ≡ g.P.Port.peer_count l.fn.port
