use Rattle.std.proofs.Common.{sym, subst}
use Rattle.fab_port_suite.specs.Lanes.{AreBetween}
use Rattle.fab_port_suite.proofs.Between.{same_on}
use Rattle.fab_port_suite.proofs.talking.talk.Goals as goal

pub loop-preserved : goal.loop-preserved
loop-preserved g c = (
  same_on g.P.Port c.args.port c.loop.port c.receive.new.port c.loop.invariant.0 (same_on g.P.Port c.loop.port c.send-sent.new.port c.receive.new.port c.send-sent.ensures.same c.receive.ensures.same),
  subst AreBetween (sym c.receive.ensures.outs) c.send-sent.ensures.between,
)
