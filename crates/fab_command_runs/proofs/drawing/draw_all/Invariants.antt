use Rattle.std.proofs.Common.{◌≡◌, ◌+◌, ◌≤◌, ◌++◌, length}
use Rattle.fab_window.specs.declared.kinds.TheConstants.{MOST}
use Rattle.fab_window.specs.Seats.{account_of, board_of}
use Rattle.fab_command_runs.specs.Planned.{planned, parts}
use Rattle.fab_command_runs.proofs.drawing.draw_all.Given as goal

abbrev pub invariant-adding : goal.invariant-adding
invariant-adding l = record {
  window : board_of l.seat ≡ board_of l.fn.seat;
  room : length (account_of l.seat).drawn + l.left ≤ MOST;
  drawn : parts (account_of l.seat).drawn ++ planned l.words l.x l.left ≡ parts (account_of l.fn.seat).drawn ++ planned l.words l.fn.number l.fn.adds;
}

abbrev pub decreases-adding : goal.decreases-adding
decreases-adding l = l.left
