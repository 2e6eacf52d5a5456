use Rattle.std.proofs.Common.{◌≡◌, ℕ, ◌<◌, None, length, get_or}
use Rattle.fab_link.specs.Plain.{fresh_lane}
use Rattle.fab_link.proofs.plain.PlainPort.new_after.Given as goal

abbrev pub invariant-loop-peer : goal.invariant-loop-peer
invariant-loop-peer l = record {
  long : length l.lanes.items ≡ l.peer;
  fresh : (d : ℕ) → d < l.peer → get_or l.lanes.items d (fresh_lane None None) ≡ fresh_lane (get_or l.out_after d None) (get_or l.in_after d None);
}
