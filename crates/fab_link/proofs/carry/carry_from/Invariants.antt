use Rattle.std.proofs.Common.{◌≡◌, ◌≢◌, ℕ, ◌<◌, ◌≤◌, ◌-◌, ◌^◌, length, min, []}
use Rattle.fab_link.specs.Plain.{left, incoming}
use Rattle.fab_link.specs.Carry.{lane_of, pipe, left_count, AreAll, Continued, SameBeside}
use Rattle.fab_link.proofs.carry.carry_from.Given as goal

abbrev pub invariant-loop-to : goal.invariant-loop-to
invariant-loop-to l = record {
  all : AreAll l.ports;
  few : l.peers ≡ length l.ports;
  kept : (s r : ℕ) → pipe l.ports s r ≡ pipe l.fn.ports s r;
  same : (k d : ℕ) → SameBeside (lane_of l.fn.ports k d) (lane_of l.ports k d);
  taken : (k d : ℕ) → (incoming (lane_of l.ports k d)).taken ≡ (incoming (lane_of l.fn.ports k d)).taken;
  others : (s r : ℕ) → s ≢ l.from → left (lane_of l.ports s r) ≡ left (lane_of l.fn.ports s r);
  continued : (s r : ℕ) → s < length l.ports → r < length l.ports → Continued l.ports s r;
  done : (r : ℕ) → r < l.to → left (lane_of l.ports l.from r) ≡ [];
  fewer : left_count l.ports ≤ left_count l.fn.ports;
  moved : l.moved ≡ min (left_count l.fn.ports - left_count l.ports) (2 ^ 64 - 1);
}
