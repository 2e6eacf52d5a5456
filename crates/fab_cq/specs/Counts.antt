-- The counters (fi_cntr(3)), one for each class, in the order of class_place.
--     no_counts                  nothing has been counted
--     adding class n counters    n more successes of this class
use Rattle.std.specs.Prelude.{ℕ, List, replicate, slice_set}
use Rattle.fab_base.specs.declared.entries.Class.{Class}
use Rattle.fab_base.specs.declared.operations.Tally.{Tally}
use Rattle.fab_model.specs.State.{add_capped, class_place, nothing_counted, tally_of}

abbrev pub no_counts : List Tally
no_counts = replicate 6 nothing_counted

abbrev pub adding : Class → ℕ → List Tally → List Tally
adding class n counters =
    let t = tally_of counters class in
    slice_set counters (class_place class) (record t { ok = add_capped t.ok n })
