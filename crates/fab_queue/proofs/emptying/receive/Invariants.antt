use Rattle.std.proofs.Common.{◌≡◌, length}
use Rattle.fab_queue.proofs.Receiving.{Receiving}
use Rattle.fab_queue.proofs.emptying.receive.Given as goal

abbrev pub invariant-loop-inlet : goal.invariant-loop-inlet
invariant-loop-inlet g l = (l.reader ≡ l.fn.port.number) × Receiving l.fn.outs l.outs l.fn.ins.items l.ins.items l.fn.rooms.items l.rooms.items l.fn.port l.port

abbrev pub decreases-loop-inlet : goal.decreases-loop-inlet
decreases-loop-inlet g l = length l.ins.items
