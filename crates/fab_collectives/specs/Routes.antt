-- How the messages of a collective go, and what they bring. `len` is how many bytes a share has.
--     is_doubled coll peers len       by doubling: from 8 ranks on, where a message is never longer than an inject call copies
--     topology_of work len            who tells whom
--     rounds_in work len              how many rounds there are
--     hears_in, source_in             whether the rank hears in a round, and whom
--     tells_in, target_in             whether the rank tells in a round, and whom
--     heard_by work len source        the round in which it hears this source, if it does
--     load_in work len k              how many shares a message of round k brings: of an allgather or an allreduce those of ranks ahead of its sender, and the sender's first
--     joined_of work own received     the own share and those that were heard, of the ranks from this one on, around; of a broadcast the root's
--     message_of work own received k  what the rank tells in round k: as many shares from its own on as a message of this round brings; of a broadcast the root's
--     others_of work own received     the shares of the others, in order of ranks; of a broadcast the root's
use Rattle.std.specs.Prelude.{ℕ, zero, suc, ◌+◌, ◌-◌, ◌*◌, ◌/◌, ◌==◌, ◌&&◌, not, Bool, List, [], ◌∷◌, ◌++◌, length, map, take, drop, slice_index_or, nat_lt, if◌then◌else◌, Option}
use Rattle.std.specs.List.{concat, range_with_len}
use Rattle.fab_base.specs.declared.limits.TheConstants.{INJECT_BYTES}
use Rattle.fab_fold.specs.declared.coll.Coll.{Coll}
use Rattle.fab_fold.specs.declared.coll.Coll.TheVariants.{Broadcast}
use Rattle.fab_topology.specs.declared.kinds.Topology.{Topology}
use Rattle.fab_topology.specs.declared.kinds.Topology.TheVariants.{Mesh, Dissemination, Star, Tree}
use Rattle.fab_topology.specs.Rounds.{behind, distance, hears, round_from, rounds_of, source_of, target_of, tells, waits_for, width}
use Rattle.fab_collectives.specs.declared.collective.Work.{Work}
use Rattle.fab_collectives.specs.declared.routes.TheConstants.{DOUBLING_FROM}

-- a message brings at most half of the shares
abbrev pub is_doubled : Coll → ℕ → ℕ → Bool
is_doubled (Broadcast root) peers len = not (nat_lt peers DOUBLING_FROM)
is_doubled _ peers len = not (nat_lt peers DOUBLING_FROM) && not (nat_lt (2 * INJECT_BYTES / peers) len)

abbrev pub topology_by : Coll → Bool → Topology
topology_by (Broadcast root) doubled = if doubled then Tree root else Star root
topology_by _ doubled = if doubled then Dissemination else Mesh

abbrev pub topology_of : Work → ℕ → Topology
topology_of work len = topology_by work.coll (is_doubled work.coll work.peers len)

abbrev pub rounds_in : Work → ℕ → ℕ
rounds_in work len = rounds_of (topology_of work len) work.peers

abbrev pub hears_in : Work → ℕ → ℕ → Bool
hears_in work len k = hears (topology_of work len) work.peers work.rank k

abbrev pub source_in : Work → ℕ → ℕ → ℕ
source_in work len k = source_of (topology_of work len) work.peers work.rank k

abbrev pub tells_in : Work → ℕ → ℕ → Bool
tells_in work len k = tells (topology_of work len) work.peers work.rank k

abbrev pub target_in : Work → ℕ → ℕ → ℕ
target_in work len k = target_of (topology_of work len) work.peers work.rank k

abbrev pub heard_by : Work → ℕ → ℕ → Option ℕ
heard_by work len source = round_from (topology_of work len) work.peers work.rank source (rounds_in work len)

abbrev pub load_by : Coll → ℕ → ℕ
load_by (Broadcast root) width = 1
load_by _ width = width

abbrev pub load_in : Work → ℕ → ℕ → ℕ
load_in work len k = load_by work.coll (width (topology_of work len) work.peers k)

abbrev pub joined_by : Coll → ℕ → List ℕ → List (List ℕ) → List ℕ
joined_by (Broadcast root) rank own received = if rank == root then own else concat received
joined_by _ rank own received = own ++ concat received

abbrev pub joined_of : Work → List ℕ → List (List ℕ) → List ℕ
joined_of work own received = joined_by work.coll work.rank own received

-- of the first rounds, the shares that are fewer steps ahead than a width
abbrev pub heard_within : Topology → ℕ → List (List ℕ) → ℕ → ℕ → List ℕ
heard_within topology len received width zero = []
heard_within topology len received width (suc j) =
    heard_within topology len received width j ++ take ((width - distance topology j) * len) (slice_index_or received j [])

abbrev pub told_of : Work → List ℕ → List (List ℕ) → ℕ → List ℕ
told_of work own received k = let topology = topology_of work (length own) in
    own ++ heard_within topology (length own) received (width topology work.peers k) (waits_for topology k)

abbrev pub message_by : Coll → Work → List ℕ → List (List ℕ) → ℕ → List ℕ
message_by (Broadcast root) work own received k = joined_of work own received
message_by _ work own received k = told_of work own received k

abbrev pub message_of : Work → List ℕ → List (List ℕ) → ℕ → List ℕ
message_of work own received k = message_by work.coll work own received k

-- the share of rank s, as many steps ahead as it is
abbrev pub share_of : Work → ℕ → List ℕ → ℕ → List ℕ
share_of work len joined s = take len (drop (behind work.peers s work.rank * len) joined)

-- in order of ranks
abbrev pub each_of : Work → List ℕ → List (List ℕ) → List (List ℕ)
each_of work own received =
    map (λ s. share_of work (length own) (joined_of work own received) s) (range_with_len 0 work.rank)
    ++ map (λ s. share_of work (length own) (joined_of work own received) s) (range_with_len (work.rank + 1) (work.peers - (work.rank + 1)))

abbrev pub others_by : Coll → Work → List ℕ → List (List ℕ) → List (List ℕ)
others_by (Broadcast root) work own received = if work.rank == root then [] else joined_of work own received ∷ []
others_by _ work own received = each_of work own received

abbrev pub others_of : Work → List ℕ → List (List ℕ) → List (List ℕ)
others_of work own received = others_by work.coll work own received
