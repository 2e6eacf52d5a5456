use Rattle.std.proofs.Common.{◌≡◌, [], replicate}
use Rattle.fab_kept.proofs.index.empty_queues.Given as goal

abbrev pub invariant-loop-n : goal.invariant-loop-n
invariant-loop-n l = l.queues.items ≡ replicate l.n []
