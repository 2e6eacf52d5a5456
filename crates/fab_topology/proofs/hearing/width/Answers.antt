use Rattle.std.proofs.Common.{arith}
use Rattle.fab_topology.proofs.Calls.{distance_below}
use Rattle.fab_topology.proofs.hearing.width.Goals as goal

pub overflow_sub-peers : goal.overflow_sub-peers
overflow_sub-peers c = let below = distance_below c.args.topology c.args.peers c.args.round c.requires in omega (arith, c.distance-distance.ensures)
