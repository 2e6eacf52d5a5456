use Rattle.std.proofs.Common.{◌≡◌, ℕ, length}
use Rattle.std.specs.Prelude.{Some, slice_get, Vec}
use Rattle.std.specs.declared.alloc.Global.{Global}
use Rattle.fab_base.specs.declared.frames.Frame.{Frame}
use Rattle.fab_queue.specs.Ports.{Queued}
use Rattle.fab_queue.specs.Gather.{IsRoom}
use Rattle.fab_queue.proofs.rooms.rooms_to.Given as goal

abbrev pub invariant-loop-source : goal.invariant-loop-source
invariant-loop-source g l = (length l.rooms.items ≡ l.source-index) × ((k : ℕ) (p : Queued) (w : Vec Frame Global) → slice_get l.ports k ≡ Some p → slice_get l.rooms.items k ≡ Some w → IsRoom p l.reader w)
