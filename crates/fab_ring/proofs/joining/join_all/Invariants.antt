use Rattle.std.proofs.Common.{◌≡◌, [], length}
use mathlib.Core.List.{IsPrefix}
use Rattle.std.specs.Arc.{arc_value}
use Rattle.fab_table.specs.declared.lane_table.LaneTable.{LaneTable}
use Rattle.fab_table.specs.Seats.{IsOf, carried, view_of_seat}
use Rattle.fab_ring.specs.Gather.{AreAll}
use Rattle.fab_ring.proofs.Releasing.{Joining}
use Rattle.fab_ring.proofs.joining.join_all.Given as goal

abbrev pub invariant-loop-port : goal.invariant-loop-port
invariant-loop-port l = record {
  rest : IsPrefix l.ports.items l.fn.ports.items;
  table : (f : LaneTable) → AreAll f l.fn.ports.items → arc_value l.fabric ≡ f;
  of : (f : LaneTable) → AreAll f l.fn.ports.items → IsOf f l.seat;
  hand : carried l.seat ≡ [];
  joined : Joining l.fn.ports.items (length l.ports.items) (view_of_seat l.seat);
}

abbrev pub decreases-loop-port : goal.decreases-loop-port
decreases-loop-port l = length l.ports.items
