use Rattle.std.proofs.Common.{◌≡◌, [], replicate}
use Rattle.fab_collectives.proofs.collective.empty.Given as goal

abbrev pub invariant-loop-place : goal.invariant-loop-place
invariant-loop-place l = l.all.items ≡ replicate l._place []
