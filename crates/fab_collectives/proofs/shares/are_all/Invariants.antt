use Rattle.std.proofs.Common.{◌≡◌, ◌<◌, ◌*◌, ℕ, [], length, slice_index_or}
use Rattle.fab_collectives.specs.Routes.{load_in}
use Rattle.fab_collectives.proofs.shares.are_all.Given as goal

abbrev pub invariant-loop-k : goal.invariant-loop-k
invariant-loop-k l = (k : ℕ) → k < l.k → length (slice_index_or l.received k []) ≡ load_in l.fn.work l.fn.len k * l.fn.len
