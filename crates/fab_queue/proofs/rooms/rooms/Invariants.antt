use Rattle.std.proofs.Common.{◌≡◌, ℕ, length}
use Rattle.std.specs.Prelude.{Some, slice_get, Vec}
use Rattle.std.specs.declared.alloc.Global.{Global}
use Rattle.fab_base.specs.declared.frames.Frame.{Frame}
use Rattle.fab_queue.specs.Ports.{Queued, number_of}
use Rattle.fab_queue.specs.Gather.{AreRooms}
use Rattle.fab_queue.proofs.rooms.rooms.Given as goal

abbrev pub invariant-loop-reader : goal.invariant-loop-reader
invariant-loop-reader g l = (length l.all.items ≡ l.reader-index) × ((k : ℕ) (p : Queued) (w : Vec (Vec Frame Global) Global) → slice_get l.ports k ≡ Some p → slice_get l.all.items k ≡ Some w → AreRooms l.ports (number_of p) w.items)
