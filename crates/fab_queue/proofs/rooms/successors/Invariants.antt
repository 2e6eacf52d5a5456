use Rattle.std.proofs.Common.{◌≡◌, ℕ, length}
use Rattle.std.specs.Prelude.{Some, slice_get}
use Rattle.fab_link.specs.Plain.{Plain}
use Rattle.fab_queue.specs.Ports.{Queued, IsSound}
use Rattle.fab_queue.specs.Gather.{Succeeds}
use Rattle.fab_queue.proofs.rooms.successors.Given as goal

abbrev pub invariant-loop-port : goal.invariant-loop-port
invariant-loop-port g l = (length l.all.items ≡ l.port-index) × ((k : ℕ) (p : Queued) (q : Plain) → slice_get l.ports k ≡ Some p → slice_get l.all.items k ≡ Some q → Succeeds p q × IsSound p)
