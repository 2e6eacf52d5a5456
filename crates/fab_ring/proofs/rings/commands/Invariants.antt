use Rattle.std.proofs.Common.{◌≡◌, length}
use Rattle.fab_ring.proofs.rings.commands.Given as goal

abbrev pub invariant-loop : goal.invariant-loop
invariant-loop l = length l.all.items ≡ l.counter
