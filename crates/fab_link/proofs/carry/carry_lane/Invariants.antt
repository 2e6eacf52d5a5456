use Rattle.std.proofs.Common.{◌≡◌, ◌≢◌, ℕ, ◌≤◌, ◌-◌, ◌^◌, length, min}
use Rattle.std.specs.Prelude.{◌⊎◌}
use Rattle.fab_link.specs.Plain.{left, incoming}
use Rattle.fab_link.specs.Carry.{lane_of, pipe, left_count, AreAll, Continued, SameBeside}
use Rattle.fab_link.proofs.carry.carry_lane.Given as goal

abbrev pub invariant-frames : goal.invariant-frames
invariant-frames l = record {
  all : AreAll l.ports;
  continued : Continued l.ports l.from l.to;
  kept : (s r : ℕ) → pipe l.ports s r ≡ pipe l.fn.ports s r;
  same : (k d : ℕ) → SameBeside (lane_of l.fn.ports k d) (lane_of l.ports k d);
  taken : (k d : ℕ) → (incoming (lane_of l.ports k d)).taken ≡ (incoming (lane_of l.fn.ports k d)).taken;
  others : (s r : ℕ) → (s ≢ l.from) ⊎ (r ≢ l.to)
      → (left (lane_of l.ports s r) ≡ left (lane_of l.fn.ports s r)) × ((lane_of l.ports r s).in_list ≡ (lane_of l.fn.ports r s).in_list);
  fewer : left_count l.ports ≤ left_count l.fn.ports;
  moved : l.moved ≡ min (left_count l.fn.ports - left_count l.ports) (2 ^ 64 - 1);
}

abbrev pub decreases-frames : goal.decreases-frames
decreases-frames l = length (left (lane_of l.ports l.from l.to))
