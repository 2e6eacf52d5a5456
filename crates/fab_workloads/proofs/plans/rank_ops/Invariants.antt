use Rattle.std.proofs.Common.{take, ◌≡◌}
use Rattle.fab_workloads.specs.Plan.{rounds_ops}
use Rattle.fab_workloads.proofs.plans.rank_ops.Given as goal

abbrev pub invariant-loop-round : goal.invariant-loop-round
invariant-loop-round l = (l.ops.items ≡ rounds_ops l.peers 1 l.r (take l.round-index l.rounds)) × (l.i ≡ l.round-index)
