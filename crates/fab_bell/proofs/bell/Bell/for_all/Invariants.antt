use Rattle.std.proofs.Common.{◌≡◌, length}
use Rattle.fab_bell.proofs.bell.Bell.for_all.Given as goal

abbrev pub invariant-peers : goal.invariant-peers
invariant-peers l = length l.all.items ≡ l.peer
