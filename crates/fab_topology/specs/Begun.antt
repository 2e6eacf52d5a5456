-- No rank is done before all have begun.
--     AreSent topology peers begun came   in a run, each message that came was sent by a rank that had begun, once those came that it waits for
--     AllBegun                            then who has begun and got the message of each round in which it hears, is done after all have begun, or after the root
use Rattle.std.specs.Prelude.{◌≡◌, ℕ, ◌<◌, Bool, true}
use Rattle.fab_topology.specs.declared.kinds.Topology.{Topology}
use Rattle.fab_topology.specs.Rounds.{hears, root_of, rounds_of, source_of, waits_for}
use Rattle.fab_topology.specs.Laws.{AreRanks, IsFor}

-- which ranks have begun, and of which rounds the message of a rank came
abbrev pub AreSent : Topology → ℕ → (ℕ → Bool) → (ℕ → ℕ → Bool) → Type 0
AreSent topology peers begun came = (rank round : ℕ) → rank < peers → round < rounds_of topology peers → hears topology peers rank round ≡ true → came rank round ≡ true
    → let source = source_of topology peers rank round in
    (begun source ≡ true) × ((before : ℕ) → before < waits_for topology round → hears topology peers source before ≡ true → came source before ≡ true)

abbrev pub AllBegun : Type 0
AllBegun = (topology : Topology) (peers : ℕ) (begun : ℕ → Bool) (came : ℕ → ℕ → Bool) → AreRanks topology peers → AreSent topology peers begun came
    → (rank : ℕ) → rank < peers → begun rank ≡ true → ((round : ℕ) → round < rounds_of topology peers → hears topology peers rank round ≡ true → came rank round ≡ true)
    → (other : ℕ) → IsFor (root_of topology) other → other < peers → begun other ≡ true
