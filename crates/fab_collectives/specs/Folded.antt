-- What all ranks come to together, where each message is what the contract of its sender's `drive` says.
--     at_rank work r                  the same collective at rank r
--     AreSaid work len shares heard   of each rank's share and what it heard, by round: what it heard in a round is the message of the rank that it hears in it
--     EachIsFolded                    then what each rank makes of it is the fold of all shares in order of ranks
--     IsHad n heard had               what a rank that came to hear so had at a time: of the first n rounds all of it, of each other that or nothing yet
--     IsTold work own heard k message     the message of round k of a rank that came to hear so, made of what it had when it told
--     AreRelayed work len shares heard    of a broadcast: what a rank heard in a round is the message of the rank that it hears in it, or nothing where it hears none
--     EachIsTheRoots                  then what each rank makes of it is the root's share
use Rattle.std.specs.Prelude.{◌≡◌, ℕ, ◌<◌, ◌≤◌, ◌⊎◌, ◌^◌, true, false, List, [], length, map, slice_index_or}
use Rattle.std.specs.List.{range_with_len}
use Rattle.fab_fold.specs.Shares.{fold, outcome_of}
use Rattle.fab_fold.specs.declared.coll.Coll.{Coll}
use Rattle.fab_fold.specs.declared.coll.Coll.TheVariants.{Barrier, Broadcast, Allgather, Allreduce}
use Rattle.fab_topology.specs.Rounds.{waits_for}
use Rattle.fab_collectives.specs.Routes.{hears_in, message_of, others_of, rounds_in, source_in, topology_of}
use Rattle.fab_collectives.specs.declared.collective.Work.{Work}

abbrev pub at_rank : Work → ℕ → Work
at_rank work r = record work { rank = r }

-- of an allgather and an allreduce
abbrev pub AreShared : Coll → Type 0
AreShared Barrier = ⊥
AreShared (Broadcast root) = ⊥
AreShared Allgather = Unit {0}
AreShared (Allreduce op num) = Unit {0}

abbrev pub AreSaid : Work → ℕ → (ℕ → List ℕ) → (ℕ → List (List ℕ)) → Type 0
AreSaid work len shares heard = (r : ℕ) → r < work.peers → (length (shares r) ≡ len) × (length (heard r) ≡ rounds_in work len)
    × ((k : ℕ) → k < rounds_in work len → let source = source_in (at_rank work r) len k in
    slice_index_or (heard r) k [] ≡ message_of (at_rank work source) (shares source) (heard source) k)

abbrev pub EachIsFolded : Type 0
EachIsFolded = (work : Work) (len : ℕ) (shares : ℕ → List ℕ) (heard : ℕ → List (List ℕ)) → AreShared work.coll → work.peers ≤ 2 ^ 32 → AreSaid work len shares heard
    → (r : ℕ) → r < work.peers
    → outcome_of work.coll r (shares r) (others_of (at_rank work r) (shares r) (heard r)) ≡ fold work.coll (map shares (range_with_len 0 work.peers))

abbrev pub IsHad : ℕ → List (List ℕ) → List (List ℕ) → Type 0
IsHad n heard had = (k : ℕ) → (slice_index_or had k [] ≡ slice_index_or heard k []) ⊎ ((n ≤ k) × (slice_index_or had k [] ≡ []))

-- it tells once it heard in all rounds that this one waits for
abbrev pub IsTold : Work → List ℕ → List (List ℕ) → ℕ → List ℕ → Type 0
IsTold work own heard k message =
    (had : List (List ℕ)) × IsHad (waits_for (topology_of work (length own)) k) heard had × (message ≡ message_of work own had k)

abbrev pub AreRelayed : Work → ℕ → (ℕ → List ℕ) → (ℕ → List (List ℕ)) → Type 0
AreRelayed work len shares heard = (r : ℕ) → r < work.peers → (length (heard r) ≡ rounds_in work len)
    × ((k : ℕ) → k < rounds_in work len → let source = source_in (at_rank work r) len k in let message = slice_index_or (heard r) k [] in
    (hears_in (at_rank work r) len k ≡ true → IsTold (at_rank work source) (shares source) (heard source) k message)
    × (hears_in (at_rank work r) len k ≡ false → message ≡ []))

abbrev pub EachIsTheRoots : Type 0
EachIsTheRoots = (work : Work) (root len : ℕ) (shares : ℕ → List ℕ) (heard : ℕ → List (List ℕ)) → work.coll ≡ Broadcast root → root < work.peers → work.peers ≤ 2 ^ 32
    → AreRelayed work len shares heard
    → (r : ℕ) → r < work.peers → outcome_of work.coll r (shares r) (others_of (at_rank work r) (shares r) (heard r)) ≡ shares root
