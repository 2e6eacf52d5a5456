use Rattle.std.proofs.Common.{◌≡◌, map, take}
use Rattle.fab_model.specs.Calls.{upto}
use Rattle.fab_model.specs.Replay.{newly, lines_of}
use Rattle.fab_replay.specs.Seen.{actors_of, steps_of, left_of}
use Rattle.fab_replay.proofs.opening.open.Given as goal

-- the peers before this one are there
abbrev pub invariant-loop-number : goal.invariant-loop-number
invariant-loop-number l = record {
  actors : actors_of l.bound l.peers.items ≡ map (λ p. newly l.bound.script.conf (lines_of l.bound p)) (upto l.number);
  steps : steps_of l.peers.items ≡ take l.number l.schedule;
  left : map left_of l.peers.items ≡ take l.number l.schedule;
}
