use Rattle.std.proofs.Common.{◌≡◌, ℕ, length}
use Rattle.std.specs.Prelude.{Some, slice_get}
use Rattle.fab_link.specs.Plain.{Plain}
use Rattle.fab_ring.specs.declared.port.RingPort.{RingPort}
use Rattle.fab_ring.specs.Gather.{Succeeds}
use Rattle.fab_ring.proofs.rooms.successors.Given as goal

abbrev pub invariant-loop-port : goal.invariant-loop-port
invariant-loop-port l = record {
  count : length l.all.items ≡ l.port-index;
  each : (k : ℕ) (p : RingPort) (q : Plain) → slice_get l.ports k ≡ Some p → slice_get l.all.items k ≡ Some q → Succeeds p q;
}
