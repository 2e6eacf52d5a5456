use Rattle.std.proofs.Common.{◌≡◌, None, replicate}
use Rattle.fab_replay.proofs.opening.nothing_coming.Given as goal

abbrev pub invariant-loop-peer : goal.invariant-loop-peer
invariant-loop-peer l = l.coming.items ≡ replicate l.peer None
