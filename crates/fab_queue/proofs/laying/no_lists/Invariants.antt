use Rattle.std.proofs.Common.{◌≡◌, ℕ, [], length}
use Rattle.fab_queue.specs.Laid.{members}
use Rattle.fab_queue.proofs.laying.no_lists.Given as goal

abbrev pub invariant-loop-list : goal.invariant-loop-list
invariant-loop-list g l = (length l.lists.items ≡ l._list) × ((k : ℕ) → members l.lists.items k ≡ [])
