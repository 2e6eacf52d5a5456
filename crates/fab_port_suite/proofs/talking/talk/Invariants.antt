use Rattle.fab_port_suite.specs.Lanes.{AreBetween, IsSame}
use Rattle.fab_port_suite.proofs.talking.talk.Given as goal

abbrev pub invariant-loop : goal.invariant-loop
invariant-loop g l = IsSame g.P.Port l.fn.port l.port × AreBetween (g.P.Port.outs l.port)
