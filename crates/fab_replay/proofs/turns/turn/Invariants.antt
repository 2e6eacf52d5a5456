use Rattle.std.proofs.Common.{◌≡◌, None}
use Rattle.fab_model.specs.Orders.{turn, lowest}
use Rattle.fab_model.specs.Peers.{fabric}
use Rattle.fab_model.specs.Views.{rule}
use Rattle.fab_replay.specs.Seen.{moment_of, steps_of}
use Rattle.fab_replay.proofs.turns.turn.Given as goal

-- no peer before this one can take its next step, and nothing changed
abbrev pub invariant-loop-number : goal.invariant-loop-number
invariant-loop-number l = record {
  same : moment_of l.bound l.peers ≡ moment_of l.bound l.fn.peers;
  steps : steps_of l.peers ≡ steps_of l.fn.peers;
  none : lowest (turn (rule fabric) (moment_of l.bound l.fn.peers)) l.number ≡ None;
}
