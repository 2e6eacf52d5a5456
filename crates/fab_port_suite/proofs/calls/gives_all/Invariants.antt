use Rattle.std.proofs.Common.{◌≡◌}
use Rattle.fab_port_suite.specs.Lanes.{IsSame}
use Rattle.fab_port_suite.proofs.calls.gives_all.Given as goal

abbrev pub invariant-loop-message : goal.invariant-loop-message
invariant-loop-message g l = IsSame g.P.Port l.fn.port l.port × (g.P.Port.outs l.port ≡ g.P.Port.outs l.fn.port)
