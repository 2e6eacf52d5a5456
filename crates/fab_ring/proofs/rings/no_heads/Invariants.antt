use Rattle.std.proofs.Common.{◌≡◌, replicate, None}
use Rattle.fab_ring.proofs.rings.no_heads.Given as goal

abbrev pub invariant-loop : goal.invariant-loop
invariant-loop l = l.all.items ≡ replicate l.counter None
