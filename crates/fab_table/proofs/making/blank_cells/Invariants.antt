use Rattle.std.proofs.Common.{◌≡◌, ℕ, ◌<◌, length, []}
use Rattle.std.specs.Prelude.{slice_index_or}
use Rattle.fab_table.specs.declared.kinds.Slot.TheVariants.{Pool}
use Rattle.fab_table.specs.Rule.{IsCell}
use Rattle.fab_table.proofs.making.blank_cells.Given as goal

abbrev pub invariant-loop : goal.invariant-loop
invariant-loop l = (length l.all.items ≡ l.counter) × ((q : ℕ) → q < length l.all.items → IsCell (slice_index_or l.all.items q (Pool [])))
