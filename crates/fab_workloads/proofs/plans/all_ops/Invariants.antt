use Rattle.std.proofs.Common.{map, ◌≡◌}
use Rattle.fab_model.specs.Calls.{upto}
use Rattle.fab_workloads.specs.Plan.{rounds_ops}
use Rattle.fab_workloads.proofs.plans.all_ops.Given as goal

abbrev pub invariant-loop-r : goal.invariant-loop-r
invariant-loop-r l = map (λ ops. ops.items) l.lists.items ≡ map (λ r. rounds_ops l.peers 1 r l.rounds) (upto l.r)
