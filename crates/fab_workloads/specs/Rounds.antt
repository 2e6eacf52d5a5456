-- Rounds of collectives (fi_collective(3)): their shares, and which are within the rules of a file.
--     share_of round s               the share of rank s; a rank that has none has no bytes
--     AreWithin peers rounds         rounds of so many ranks that the file's rules allow
use Rattle.std.specs.Prelude.{ℕ, ◌≤◌, List, length, All}
use Rattle.fab_workloads.specs.declared.round.Round.{Round}
use Rattle.fab_fold.specs.Shares.{AreShares, share_in}

abbrev pub share_of : Round → ℕ → List ℕ
share_of round s = share_in round.coll round.shares s

abbrev pub IsRound : ℕ → Round → Type 0
IsRound peers round = AreShares peers round.coll round.shares

abbrev pub AreWithin : ℕ → List Round → Type 0
AreWithin peers rounds = (1 ≤ peers) × (peers ≤ 32) × (length rounds ≤ 100) × All (IsRound peers) rounds
