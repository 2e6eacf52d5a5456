use Rattle.std.proofs.Common.{length, map, ◌++◌, ◌≡◌}
use Rattle.std.specs.Vec.Iter.{into_iter_items, into_iter_len}
use Rattle.fab_model.specs.Calls.{word_bytes}
use Rattle.fab_workloads.proofs.shares.all_bytes.Given as goal

abbrev pub invariant-loop-share : goal.invariant-loop-share
invariant-loop-share l = (l.all.items ++ map word_bytes (into_iter_items l.share-iterator) ≡ map word_bytes (into_iter_items l.initial.share-iterator))
    × (into_iter_len l.share-iterator ≡ length (into_iter_items l.share-iterator))
