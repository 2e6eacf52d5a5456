use Rattle.std.proofs.Common.{◌≡◌, ◌≤◌, ◌+◌, ◌<◌, ℕ, [], false, length}
use Rattle.fab_link.specs.Plain.{left}
use Rattle.fab_finish.specs.Freight.{freight, one_if}
use Rattle.fab_finish.specs.Joined.{lane, IsJoined, actors, schedules}
use Rattle.fab_finish.proofs.carrying.carry.Given as goal

abbrev pub invariant-loop-from : goal.invariant-loop-from
invariant-loop-from g l = record {
  joined : IsJoined l.peers;
  all : length l.peers ≡ length l.fn.peers;
  few : l.count ≡ length l.peers;
  actors : actors l.peers ≡ actors l.fn.peers;
  schedules : schedules l.peers ≡ schedules l.fn.peers;
  done : (s r : ℕ) → s < l.from → r < l.count → left (lane l.peers s r) ≡ [];
  same : l.moved ≡ false → l.peers ≡ l.fn.peers;
  less : freight l.peers + one_if l.moved ≤ freight l.fn.peers;
}
