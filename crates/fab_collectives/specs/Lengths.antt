-- Whether the lengths of messages belong together.
--     AreMessages work len received    there is a message of each round, as long as the shares that it brings
--     AreWhole work own received       so it is of an allgather and an allreduce, and of an allreduce a share is whole elements of an operation that reduces
use Rattle.std.specs.Prelude.{◌≡◌, ℕ, ◌<◌, ◌*◌, ◌%◌, true, List, [], length, slice_index_or}
use Rattle.fab_base.specs.Elements.{element_size}
use Rattle.fab_fold.specs.Shares.{is_reducing}
use Rattle.fab_fold.specs.declared.coll.Coll.{Coll}
use Rattle.fab_fold.specs.declared.coll.Coll.TheVariants.{Barrier, Broadcast, Allgather, Allreduce}
use Rattle.fab_collectives.specs.declared.collective.Work.{Work}
use Rattle.fab_collectives.specs.Routes.{load_in, rounds_in}

abbrev pub AreMessages : Work → ℕ → List (List ℕ) → Type 0
AreMessages work len received = (length received ≡ rounds_in work len) × ((k : ℕ) → k < rounds_in work len → length (slice_index_or received k []) ≡ load_in work len k * len)

abbrev pub AreWholeBy : Coll → Work → List ℕ → List (List ℕ) → Type 0
AreWholeBy Barrier work own received = Unit {0}
AreWholeBy (Broadcast root) work own received = Unit {0}
AreWholeBy Allgather work own received = (work.rank < work.peers) × AreMessages work (length own) received
AreWholeBy (Allreduce op num) work own received =
    (is_reducing op ≡ true) × (length own % element_size num ≡ 0) × (work.rank < work.peers) × AreMessages work (length own) received

abbrev pub AreWhole : Work → List ℕ → List (List ℕ) → Type 0
AreWhole work own received = AreWholeBy work.coll work own received
