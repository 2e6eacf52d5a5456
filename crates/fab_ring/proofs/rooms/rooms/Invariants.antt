use Rattle.std.proofs.Common.{◌≡◌, ℕ, Vec, Global, length}
use Rattle.std.specs.Prelude.{Some, slice_get}
use Rattle.fab_ring.specs.declared.port.RingPort.{RingPort}
use Rattle.fab_ring.specs.declared.rooms.Inside.{Inside}
use Rattle.fab_ring.specs.Gather.{AreRooms}
use Rattle.fab_ring.proofs.rooms.rooms.Given as goal

abbrev pub invariant-loop-reader : goal.invariant-loop-reader
invariant-loop-reader l = record {
  count : length l.all.items ≡ l.reader-index;
  each : (r : ℕ) (p : RingPort) (w : Vec Inside Global) → slice_get l.ports r ≡ Some p → slice_get l.all.items r ≡ Some w → AreRooms l.ports p w.items;
}
