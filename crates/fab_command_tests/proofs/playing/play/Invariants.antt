use Rattle.std.proofs.Common.{◌≡◌, ◌+◌, ◌-◌, ◌≤◌, length}
use Rattle.fab_meeting.specs.Seats.{account_of, IsOf}
use Rattle.fab_command_tests.proofs.playing.play.Given as goal

abbrev pub invariant-loop-made : goal.invariant-loop-made
invariant-loop-made g l = record {
  within : l.made ≤ l.meetings;
  of : IsOf l.meeting l.seat;
  said : length (account_of l.seat).said ≡ length (account_of l.fn.seat).said + l.made;
  place : (account_of l.seat).place ≡ (account_of l.fn.seat).place;
}

abbrev pub decreases-loop-made : goal.decreases-loop-made
decreases-loop-made g l = l.meetings - l.made
