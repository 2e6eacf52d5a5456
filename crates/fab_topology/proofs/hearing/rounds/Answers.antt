use Rattle.std.proofs.Common.{arith}
use Rattle.fab_topology.proofs.Tiles.{each_tiles}
use Rattle.fab_topology.proofs.hearing.rounds.Goals as goal

pub returns : goal.returns
returns c = record { count = c.count.ensures; tiles = each_tiles c.args.topology c.args.peers (omega (arith, c.ranges.peers.fits)) }
