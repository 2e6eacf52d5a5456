use Rattle.std.proofs.Common.{◌≡◌}
use Rattle.fab_model.specs.Laws.{Run}
use Rattle.fab_model.specs.Orders.{replay, steps_left, turn}
use Rattle.fab_model.specs.Peers.{fabric}
use Rattle.fab_model.specs.Views.{rule}
use Rattle.fab_replay.specs.Seen.{moment_of, steps_of}
use Rattle.fab_replay.proofs.turns.run.Given as goal

-- the rest of the replay ends where the whole does
abbrev pub invariant-turns : goal.invariant-turns
invariant-turns l = record {
  ends : replay (rule fabric) (moment_of l.bound l.peers) ≡ replay (rule fabric) (moment_of l.bound l.fn.peers);
  steps : steps_of l.peers ≡ steps_of l.fn.peers;
  order : Run (turn (rule fabric)) (moment_of l.bound l.fn.peers) l.order.items (moment_of l.bound l.peers);
}

abbrev pub decreases-turns : goal.decreases-turns
decreases-turns l = steps_left (moment_of l.bound l.peers)
