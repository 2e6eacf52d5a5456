use Rattle.std.proofs.Common.{◌≡◌}
use Rattle.fab_window.specs.Seats.{board_of}
use Rattle.part_bench.proofs.adding.add_by_seat.Given as goal

abbrev pub invariant-adding : goal.invariant-adding
invariant-adding l = board_of l.seat ≡ board_of l.fn.seat

abbrev pub decreases-adding : goal.decreases-adding
decreases-adding l = l.left
