use Rattle.std.proofs.Common.{◌≡◌, ℕ, ◌+◌, ◌<◌, ◌≤◌, length, []}
use Rattle.std.specs.Prelude.{slice_index_or}
use Rattle.fab_table.specs.declared.kinds.Slot.TheVariants.{Pool}
use Rattle.fab_table.specs.Rule.{IsCell, IsBuf}
use Rattle.fab_table.proofs.making.places.Given as goal

abbrev pub invariant-loop : goal.invariant-loop
invariant-loop l = (length l.all.items ≡ l.cells + l.counter) × ((q : ℕ) → q < l.cells → IsCell (slice_index_or l.all.items q (Pool []))) × ((q : ℕ) → l.cells ≤ q → q < length l.all.items → IsBuf (slice_index_or l.all.items q (Pool [])))
