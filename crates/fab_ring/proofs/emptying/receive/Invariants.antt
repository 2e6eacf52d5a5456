use Rattle.std.proofs.Common.{◌≡◌, ◌≢◌, ℕ, ◌<◌, ◌≤◌, [], length}
use Rattle.std.specs.Prelude.{Some, slice_get}
use mathlib.Core.List.{IsPrefix}
use Rattle.fab_link.specs.Plain.{lane_at}
use Rattle.fab_table.specs.Seats.{IsSame, part_of, in_of}
use Rattle.fab_ring.specs.declared.rooms.Inside.{Inside}
use Rattle.fab_ring.specs.Gather.{IsJoined, Emptied}
use Rattle.fab_ring.proofs.emptying.receive.Given as goal

abbrev pub invariant-loop-inside : goal.invariant-loop-inside
invariant-loop-inside l = record {
  same : IsSame l.fn.seat l.seat;
  joined : IsJoined l.fabric l.seat;
  left : IsPrefix l.rooms.items l.fn.rooms.items;
  outs : (k : ℕ) → (part_of l.seat k).outs ≡ (part_of l.fn.seat k).outs;
  rest : (k : ℕ) → k ≢ l.fn.port.number → part_of l.seat k ≡ part_of l.fn.seat k;
  later : (e : ℕ) → e < length l.rooms.items → (in_of l.seat l.fn.port.number e).taken ≡ (in_of l.fn.seat l.fn.port.number e).taken;
  number : l.port.number ≡ l.fn.port.number;
  count : length l.port.lanes ≡ length l.fn.port.lanes;
  lanes : (e : ℕ) → lane_at l.port e ≡ record (lane_at l.fn.port e) { in_list = (lane_at l.port e).in_list };
  none : (e : ℕ) → e < length l.rooms.items → (lane_at l.port e).in_list ≡ [];
  done : (e : ℕ) (i : Inside) → length l.rooms.items ≤ e → slice_get l.fn.rooms.items e ≡ Some i → Emptied l.fn.seat l.seat l.fn.port.number e i (lane_at l.port e).in_list;
}

abbrev pub decreases-loop-inside : goal.decreases-loop-inside
decreases-loop-inside l = length l.rooms.items
