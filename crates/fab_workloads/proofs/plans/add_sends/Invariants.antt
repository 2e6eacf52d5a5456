use Rattle.std.proofs.Common.{filter, map, ◌++◌, ◌≡◌}
use Rattle.fab_model.specs.Calls.{upto}
use Rattle.fab_workloads.specs.Plan.{send_to}
use Rattle.fab_fold.specs.Shares.{needs}
use Rattle.fab_workloads.specs.Rounds.{share_of}
use Rattle.fab_workloads.proofs.plans.add_sends.Given as goal

abbrev pub invariant-loop-t : goal.invariant-loop-t
invariant-loop-t l = l.ops.items ≡ l.fn.ops.items ++ map (send_to l.i (share_of l.round l.r)) (filter (λ t. needs l.round.coll t l.r) (upto l.t))
