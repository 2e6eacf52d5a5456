-- What the rounds of each topology come to.
--     AreRanks topology peers        its root, if it has one, is a rank, and ranks are numbers of 32 bits
--     EachIsHeard                    whom a rank tells in a round is another rank, which hears it in this round
--     EachIsTold                     whom a rank hears in a round tells it in this round
--     EachIsOnce                     no rank hears another in two rounds
--     EachIsFound                    the round of a source is the one in which the rank hears it; and the only one that is told
--     Tiles rounds distance width peers   the rounds follow one another without a gap, and the last ends behind all ranks
--     HeardBy doubles hears source u n t  rank t heard of rank u in the first n rounds, straight or by others
--     AllHear                        after all rounds each rank has heard of the root, or of each rank
--     messages topology peers rank   how many messages a rank sends
use Rattle.std.specs.Prelude.{◌≡◌, ℕ, zero, suc, ◌+◌, ◌^◌, ◌<◌, ◌≤◌, ◌⊎◌, Bool, true, false, count_by, Option, None, Some}
use Rattle.std.specs.List.{range_with_len}
use Rattle.fab_topology.specs.declared.kinds.Topology.{Topology}
use Rattle.fab_topology.specs.Rounds.{distance, hears, is_doubling, root_of, round_from, rounds_of, source_of, target_of, tells, width}

abbrev pub IsRoot : Option ℕ → ℕ → Type 0
IsRoot None peers = Unit {0}
IsRoot (Some root) peers = root < peers

abbrev pub AreRanks : Topology → ℕ → Type 0
AreRanks topology peers = IsRoot (root_of topology) peers × (peers ≤ 2 ^ 32)

abbrev pub EachIsHeard : Type 0
EachIsHeard = (topology : Topology) (peers rank round : ℕ) → AreRanks topology peers → rank < peers → round < rounds_of topology peers
    → tells topology peers rank round ≡ true → let target = target_of topology peers rank round in
    (target < peers) × (target ≡ rank → ⊥) × (hears topology peers target round ≡ true) × (source_of topology peers target round ≡ rank)

abbrev pub EachIsTold : Type 0
EachIsTold = (topology : Topology) (peers rank round : ℕ) → AreRanks topology peers → rank < peers → round < rounds_of topology peers
    → hears topology peers rank round ≡ true → let source = source_of topology peers rank round in
    (source < peers) × (tells topology peers source round ≡ true) × (target_of topology peers source round ≡ rank)

abbrev pub EachIsOnce : Type 0
EachIsOnce = (topology : Topology) (peers rank j k : ℕ) → AreRanks topology peers → rank < peers → j < rounds_of topology peers → k < rounds_of topology peers
    → hears topology peers rank j ≡ true → hears topology peers rank k ≡ true → source_of topology peers rank j ≡ source_of topology peers rank k → j ≡ k

abbrev pub EachIsFound : Type 0
EachIsFound = (topology : Topology) (peers rank round : ℕ) → AreRanks topology peers → rank < peers → round < rounds_of topology peers
    → hears topology peers rank round ≡ true → round_from topology peers rank (source_of topology peers rank round) (rounds_of topology peers) ≡ Some round

abbrev pub EachIsFrom : Type 0
EachIsFrom = (topology : Topology) (peers rank source n k : ℕ) → round_from topology peers rank source n ≡ Some k
    → (k < n) × (hears topology peers rank k ≡ true) × (source_of topology peers rank k ≡ source)

-- of how many ranks, itself among them, a rank has heard after so many rounds
abbrev pub reach : (ℕ → ℕ) → (ℕ → ℕ) → ℕ → ℕ
reach distance width zero = 1
reach distance width (suc k) = distance k + width k

-- each round begins where the one before ends, and tells of no more than are heard of already
pub record Tiles (rounds : ℕ) (distance width : ℕ → ℕ) (peers : ℕ) : Type 0 where
  pub next : (k : ℕ) → k < rounds → distance k ≡ reach distance width k
  pub within : (k : ℕ) → k < rounds → distance k + width k ≤ peers
  pub some : (k : ℕ) → k < rounds → 1 ≤ width k
  pub known : (k : ℕ) → k < rounds → width k ≤ distance k
  pub all : peers ≤ reach distance width rounds

abbrev pub EachTiles : Type 0
EachTiles = (topology : Topology) (peers : ℕ) → peers ≤ 2 ^ 32 → Tiles (rounds_of topology peers) (λ k. distance topology k) (λ k. width topology peers k) peers

-- by doubling the sender tells what it heard in all rounds before, for which it waits; straight it tells of itself
abbrev pub HeardBy : Bool → (ℕ → ℕ → Bool) → (ℕ → ℕ → ℕ) → ℕ → ℕ → ℕ → Type 0
HeardBy doubles hears source u zero t = t ≡ u
HeardBy true hears source u (suc n) t = HeardBy true hears source u n t ⊎ ((hears t n ≡ true) × HeardBy true hears source u n (source t n))
HeardBy false hears source u (suc n) t = HeardBy false hears source u n t ⊎ ((hears t n ≡ true) × (source t n ≡ u))

abbrev pub IsFor : Option ℕ → ℕ → Type 0
IsFor None u = Unit {0}
IsFor (Some root) u = u ≡ root

abbrev pub AllHear : Type 0
AllHear = (topology : Topology) (peers u t : ℕ) → AreRanks topology peers → IsFor (root_of topology) u → u < peers → t < peers
    → HeardBy (is_doubling topology) (λ r k. hears topology peers r k) (λ r k. source_of topology peers r k) u (rounds_of topology peers) t

abbrev pub messages : Topology → ℕ → ℕ → ℕ
messages topology peers rank = count_by (λ k. tells topology peers rank k) (range_with_len 0 (rounds_of topology peers))

-- 5 for 32 ranks
abbrev pub FewMessages : Type 0
FewMessages = (topology : Topology) (n peers rank : ℕ) → is_doubling topology ≡ true → peers ≤ 2 ^ n → n ≤ 32 → messages topology peers rank ≤ n
