use Rattle.std.proofs.Common.{◌≡◌}
use Rattle.fab_topology.specs.Rounds.{round_from}
use Rattle.fab_topology.proofs.hearing.round_from.Given as goal

abbrev pub invariant-loop-round : goal.invariant-loop-round
invariant-loop-round l = l.found ≡ round_from l.fn.topology l.fn.peers l.fn.rank l.fn.from l.round
