use Rattle.std.proofs.Common.{◌≡◌, ℕ, ◌<◌, ◌≤◌, ◌-◌, ◌^◌, length, min, []}
use Rattle.fab_link.specs.Plain.{left, incoming}
use Rattle.fab_link.specs.Carry.{lane_of, pipe, left_count, AreAll, Continued, SameBeside}
use Rattle.fab_link.proofs.carry.carry.Given as goal

abbrev pub invariant-loop-from : goal.invariant-loop-from
invariant-loop-from l = record {
  all : AreAll l.ports;
  few : l.peers ≡ length l.ports;
  kept : (s r : ℕ) → pipe l.ports s r ≡ pipe l.fn.ports s r;
  same : (k d : ℕ) → SameBeside (lane_of l.fn.ports k d) (lane_of l.ports k d);
  taken : (k d : ℕ) → (incoming (lane_of l.ports k d)).taken ≡ (incoming (lane_of l.fn.ports k d)).taken;
  continued : (s r : ℕ) → s < length l.ports → r < length l.ports → Continued l.ports s r;
  done : (s r : ℕ) → s < l.from → r < l.peers → left (lane_of l.ports s r) ≡ [];
  fewer : left_count l.ports ≤ left_count l.fn.ports;
  moved : l.moved ≡ min (left_count l.fn.ports - left_count l.ports) (2 ^ 64 - 1);
}
