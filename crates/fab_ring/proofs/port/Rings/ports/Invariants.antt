use Rattle.std.proofs.Common.{◌≡◌, ℕ, ◌-◌, ◌≤◌, [], length}
use Rattle.std.specs.Prelude.{Some, slice_get}
use Rattle.std.specs.Arc.{arc_value}
use Rattle.fab_table.specs.Views.{parts_from, view_of}
use Rattle.fab_table.specs.Seats.{IsOf, carried, view_of_seat}
use Rattle.fab_ring.specs.Made.{IsMade}
use Rattle.fab_ring.specs.declared.port.RingPort.{RingPort}
use Rattle.fab_ring.proofs.port.Rings.ports.Given as goal

abbrev pub invariant-loop-me : goal.invariant-loop-me
invariant-loop-me l = (l.me ≤ l.peers) × (length l.all.items ≡ l.me) × IsOf (arc_value l.fabric) l.seat × (carried l.seat ≡ []) × (view_of_seat l.seat ≡ view_of (parts_from (arc_value l.fabric).peers (arc_value l.fabric).room (arc_value l.fabric).pool l.me (l.peers - l.me)))
    × ((k : ℕ) (p : RingPort) → slice_get l.all.items k ≡ Some p → IsMade (arc_value l.fabric) k p)

abbrev pub decreases-loop-me : goal.decreases-loop-me
decreases-loop-me l = l.peers - l.me
