use Rattle.fab_port_suite.specs.Lanes.{AreBetween, IsSame}
use Rattle.fab_port_suite.proofs.calls.posts_all.Given as goal

abbrev pub invariant-loop-message : goal.invariant-loop-message
invariant-loop-message g l = IsSame g.P.Port l.fn.port l.port × AreBetween (g.P.Port.outs l.port)
