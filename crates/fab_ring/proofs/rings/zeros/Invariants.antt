use Rattle.std.proofs.Common.{◌≡◌, replicate}
use Rattle.fab_ring.proofs.rings.zeros.Given as goal

abbrev pub invariant-loop : goal.invariant-loop
invariant-loop l = l.all.items ≡ replicate l.counter 0
