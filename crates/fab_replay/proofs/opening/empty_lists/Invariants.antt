use Rattle.std.proofs.Common.{◌≡◌, [], replicate}
use Rattle.fab_replay.proofs.opening.empty_lists.Given as goal

abbrev pub invariant-loop-peer : goal.invariant-loop-peer
invariant-loop-peer g l = l.lists.items ≡ replicate l.peer []
