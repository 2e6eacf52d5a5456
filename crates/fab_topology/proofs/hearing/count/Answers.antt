use Rattle.std.proofs.Common.{◌≡◌, true, arith}
use Rattle.fab_topology.specs.Rounds.{is_doubling}
use Rattle.fab_topology.proofs.Calls.{doubling_rounds}
use Rattle.fab_topology.proofs.hearing.count.Goals as goal

pub returns : goal.returns
returns c = let doubles : is_doubling c.args.topology ≡ true = grind (arith, c.is_doubling.ensures, c.if-not-is_doubling.ensures, c.if-not-is_doubling.false) in
    doubling_rounds c.args.topology c.args.peers c.ilog2.result doubles (omega (arith, c.ranges.peers.fits)) (omega (arith, c.if-peers-lt2.false))
    (omega (arith, c.ilog2.ensures.power_le)) (omega (arith, c.ilog2.ensures.next_power_gt))
