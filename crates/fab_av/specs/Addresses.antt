-- An address vector of type FI_AV_TABLE (fi_av(3)), and what the machine's calls make of it.
--     Addresses                the number of peers, and of each index that was given the peer that stands there
--     HasAddresses s av        the state s of an endpoint has this address vector
--     with_addresses av s      the state with this address vector in place of its own
--     inserting s names        the answers to the insertion of these names one by one, and the state after them
--     answer_of result         the answer of a call with this result
--     Extends new old          nothing changed at the indices that were given before
--     index_named av name      the index at which the peer of this name stands
--     IsNamed peers name       the name is that of a peer
use Rattle.std.specs.Prelude.{◌≡◌, ℕ, ◌≤◌, List, [], ◌∷◌, ◌++◌, length, fold, Option, Some, None, IsSome, option_and_then, position, Result, Ok, Err, slice_index_or}
use Rattle.fab_base.specs.declared.limits.TheConstants.{MOST_INDICES}
use Rattle.fab_base.specs.declared.faults.Fault.{Fault}
use Rattle.fab_base.specs.declared.peers.LineResult.{LineResult}
use Rattle.fab_base.specs.declared.peers.LineResult.TheVariants.{Done, Refused}
use Rattle.fab_model.specs.State.{State, lookup}
use Rattle.fab_model.specs.Calls.{insert, peer_named, is_peer}

pub record Addresses : Type 0 where
  pub peers : ℕ
  pub indices : List (Option ℕ)

-- ---- in an endpoint

pub record HasAddresses (s : State) (av : Addresses) : Type 0 where
  pub peers : length s.tx.sent ≡ av.peers
  pub indices : s.av ≡ av.indices

abbrev pub with_addresses : Addresses → State → State
with_addresses av s = record s { av = av.indices }

abbrev pub insert_next : List LineResult × State → List ℕ → List LineResult × State
insert_next done name = let one = insert done.1 name in (done.0 ++ one.0 ∷ [], one.1)

abbrev pub inserting : State → List (List ℕ) → List LineResult × State
inserting s names = fold insert_next ([], s) names

abbrev pub answer_of : Result (Unit {0}) Fault → LineResult
answer_of (Ok _) = Done
answer_of (Err fault) = Refused fault

-- ---- what an application sees

abbrev pub Extends : Addresses → Addresses → Type 0
Extends new old = (more : List (Option ℕ)) × (new.indices ≡ old.indices ++ more)

abbrev pub IsNamed : ℕ → List ℕ → Type 0
IsNamed peers name = IsSome (peer_named peers name)

abbrev pub index_named : Addresses → List ℕ → Option ℕ
index_named av name = option_and_then (λ peer. position (is_peer peer) av.indices) (peer_named av.peers name)

-- ---- how it is kept: by index, and the index of each peer

pub record IsTable (peers : ℕ) (by_index by_peer : List (Option ℕ)) : Type 0 where
  pub all : length by_peer ≡ peers
  pub limit : length by_index ≤ MOST_INDICES
  -- whoever stands at an index has it as its index
  pub found : (i k : ℕ) → lookup by_index i ≡ Some k → slice_index_or by_peer k None ≡ Some i
  -- a peer stands at its index
  pub stands : (k i : ℕ) → slice_index_or by_peer k None ≡ Some i → lookup by_index i ≡ Some k
