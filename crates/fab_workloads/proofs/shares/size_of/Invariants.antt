use Rattle.std.proofs.Common.{take, ◌≡◌}
use Rattle.std.specs.Prelude.{sum_by}
use Rattle.fab_words.specs.Bytes.{bytes_size}
use Rattle.fab_workloads.proofs.shares.size_of.Given as goal

abbrev pub invariant-loop-share : goal.invariant-loop-share
invariant-loop-share l = l.size ≡ sum_by bytes_size (take l.share-index l.shares)
