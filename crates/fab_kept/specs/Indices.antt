-- What an index has of each context.
--     is_low n ctx                 the context is a number below n
--     places_in index ctx          its places: those of a low context in the row, of any other in the map
use Rattle.std.specs.Prelude.{ℕ, Bool, false, cond, nat_lt, List, [], length, slice_index_or, Option, Some, None}
use Rattle.fab_kept.specs.Places.{Queues, queue_of}
use Rattle.fab_kept.specs.declared.index.Index.{Index}

abbrev pub is_low : ℕ → Option ℕ → Bool
is_low n None = false
is_low n (Some ctx) = nat_lt ctx n

abbrev pub places_among : {S : Type 0} → List (List ℕ) → Queues S → Option ℕ → List ℕ
places_among row map None = queue_of map None
places_among row map (Some ctx) = cond (nat_lt ctx (length row)) (slice_index_or row ctx []) (queue_of map (Some ctx))

abbrev pub places_in : Index → Option ℕ → List ℕ
places_in index ctx = places_among index.row.items index.map ctx
