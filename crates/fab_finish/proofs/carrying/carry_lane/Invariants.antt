use Rattle.std.proofs.Common.{◌≡◌, ◌≤◌, ◌+◌, ◌≢◌, ℕ, false, length}
use Rattle.std.specs.Prelude.{◌⊎◌}
use Rattle.fab_link.specs.Plain.{left}
use Rattle.fab_finish.specs.Freight.{freight, one_if}
use Rattle.fab_finish.specs.Joined.{lane, IsJoined, actors, schedules}
use Rattle.fab_finish.proofs.carrying.carry_lane.Given as goal

abbrev pub invariant-frames : goal.invariant-frames
invariant-frames g l = record {
  joined : IsJoined l.peers;
  count : length l.peers ≡ length l.fn.peers;
  actors : actors l.peers ≡ actors l.fn.peers;
  schedules : schedules l.peers ≡ schedules l.fn.peers;
  others : (s r : ℕ) → (s ≢ l.from) ⊎ (r ≢ l.to) → left (lane l.peers s r) ≡ left (lane l.fn.peers s r);
  same : l.moved ≡ false → l.peers ≡ l.fn.peers;
  less : freight l.peers + one_if l.moved ≤ freight l.fn.peers;
}

abbrev pub decreases-frames : goal.decreases-frames
decreases-frames g l = length (left (lane l.peers l.from l.to))
