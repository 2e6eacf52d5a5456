use Rattle.std.proofs.Common.{◌≡◌, drop, map}
use Rattle.fab_replay.specs.Seen.{left_of}
use Rattle.fab_replay.specs.Verdict.{first_left}
use Rattle.fab_replay.proofs.verdicts.first_left.Given as goal

-- the first is among those that are left
abbrev pub invariant-loop-number : goal.invariant-loop-number
invariant-loop-number l = first_left l.number (map left_of (drop l.number l.peers)) ≡ first_left 0 (map left_of l.peers)
