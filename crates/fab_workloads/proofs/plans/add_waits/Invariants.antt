use Rattle.std.proofs.Common.{filter, map, ◌++◌, ◌≡◌}
use Rattle.fab_model.specs.Calls.{upto}
use Rattle.fab_workloads.specs.Plan.{wait_of}
use Rattle.fab_fold.specs.Shares.{needs}
use Rattle.fab_workloads.proofs.plans.add_waits.Given as goal

abbrev pub invariant-loop-s : goal.invariant-loop-s
invariant-loop-s l = l.ops.items ≡ l.fn.ops.items ++ map (wait_of l.i) (filter (λ s. needs l.coll l.r s) (upto l.s))
