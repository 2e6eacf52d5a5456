use Rattle.std.proofs.Common.{◌≡◌, ℕ, length}
use Rattle.std.specs.Prelude.{Some, slice_get}
use Rattle.fab_ring.specs.declared.port.RingPort.{RingPort}
use Rattle.fab_ring.specs.declared.rooms.Inside.{Inside}
use Rattle.fab_ring.specs.Gather.{IsRoom}
use Rattle.fab_ring.proofs.rooms.rooms_of.Given as goal

abbrev pub invariant-loop-source : goal.invariant-loop-source
invariant-loop-source l = record {
  count : length l.rooms.items ≡ l.source-index;
  each : (s : ℕ) (p : RingPort) (i : Inside) → slice_get l.ports s ≡ Some p → slice_get l.rooms.items s ≡ Some i → IsRoom l.reader p i;
}
