use Rattle.std.proofs.Common.{length}
use Rattle.fab_queue.proofs.Receiving.{ReceivingAll}
use Rattle.fab_queue.proofs.emptying.receive_all.Given as goal

abbrev pub invariant-loop-own : goal.invariant-loop-own
invariant-loop-own g l = ReceivingAll l.fn.outs l.outs l.fn.ins.items l.ins.items l.fn.rooms.items l.rooms.items l.fn.ports l.ports

abbrev pub decreases-loop-own : goal.decreases-loop-own
decreases-loop-own g l = length l.ins.items
