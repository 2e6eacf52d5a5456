-- A table that keeps values under ids of its own choice, over a slab.
--     Cells           a table as contracts see it
--     at t id         the value under this id, if there is one
--     table_of s      a slab as a table: its keys are the ids
--     IsTable s       what holds of a table's slab at all times
use Rattle.std.specs.Prelude.{◌≡◌, ℕ, ◌-◌, ◌≤◌, List, map, Option, None, slice_index_or}
use Rattle.std.specs.List.{range_with_len}
use Rattle.slab.specs.Slab.{Slab, get, slab_len}

pub record Cells (T : Type 0) : Type 0 where
  -- the value or nothing under each id for which there is memory, from 0 on
  pub cells : List (Option T)
  -- how many more values fit
  pub spare : ℕ

abbrev pub at : {T : Type 0} → Cells T → ℕ → Option T
at t id = slice_index_or t.cells id None

abbrev pub table_of : {T : Type 0} → Slab T → Cells T
table_of s = record { cells = map (get s) (range_with_len 0 s.capacity); spare = s.capacity - slab_len s }

pub record IsTable {T : Type 0} (s : Slab T) : Type 0 where
  -- no value stands where there is no memory
  pub beyond : (id : ℕ) → s.capacity ≤ id → get s id ≡ None
  pub within : slab_len s ≤ s.capacity
