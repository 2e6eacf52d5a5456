use Rattle.std.proofs.Common.{◌≡◌, ◌+◌, drop}
use Rattle.fab_replay.specs.Verdict.{common}
use Rattle.fab_replay.proofs.verdicts.first_difference.Given as goal

-- so far both are equal
abbrev pub invariant-loop-at : goal.invariant-loop-at
invariant-loop-at l = common l.a l.b ≡ l.at + common (drop l.at l.a) (drop l.at l.b)
