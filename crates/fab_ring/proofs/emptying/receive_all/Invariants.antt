use Rattle.std.proofs.Common.{◌≡◌, ℕ, ◌<◌, ◌≤◌, Vec, Global, length}
use Rattle.std.specs.Prelude.{Some, slice_get}
use mathlib.Core.List.{IsPrefix}
use Rattle.fab_link.specs.Plain.{Plain}
use Rattle.fab_table.specs.Seats.{IsSame, part_of}
use Rattle.fab_ring.specs.declared.rooms.Inside.{Inside}
use Rattle.fab_ring.specs.Gather.{IsJoined, Brought}
use Rattle.fab_ring.proofs.emptying.receive_all.Given as goal

abbrev pub invariant-loop-own : goal.invariant-loop-own
invariant-loop-own l = record {
  same : IsSame l.fn.seat l.seat;
  joined : IsJoined l.fabric l.seat;
  left : IsPrefix l.rooms.items l.fn.rooms.items;
  count : length l.ports ≡ length l.fn.ports;
  outs : (k : ℕ) → (part_of l.seat k).outs ≡ (part_of l.fn.seat k).outs;
  later : (k : ℕ) → k < length l.rooms.items → part_of l.seat k ≡ part_of l.fn.seat k;
  kept : (r : ℕ) → r < length l.rooms.items → slice_get l.ports r ≡ slice_get l.fn.ports r;
  done : (r : ℕ) (p q : Plain) (w : Vec Inside Global) → length l.rooms.items ≤ r → slice_get l.fn.ports r ≡ Some p → slice_get l.ports r ≡ Some q → slice_get l.fn.rooms.items r ≡ Some w → Brought l.fn.seat l.seat p q w.items;
}

abbrev pub decreases-loop-own : goal.decreases-loop-own
decreases-loop-own l = length l.rooms.items
