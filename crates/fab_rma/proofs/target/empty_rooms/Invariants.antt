use Rattle.std.proofs.Common.{◌≡◌, replicate}
use Rattle.fab_rma.proofs.target.empty_rooms.Given as goal

abbrev pub invariant-loop : goal.invariant-loop
invariant-loop l = l.rooms.items ≡ replicate l.counter 0
