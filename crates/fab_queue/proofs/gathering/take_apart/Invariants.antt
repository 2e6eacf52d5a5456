use Rattle.std.proofs.Common.{◌≡◌, ◌++◌, List, length}
use Rattle.fab_queue.specs.Ports.{Queued}
use Rattle.fab_queue.specs.Gather.{AreApart}
use Rattle.fab_queue.proofs.gathering.take_apart.Given as goal

abbrev pub invariant-loop-port : goal.invariant-loop-port
invariant-loop-port g l = ((rest : List Queued) × (l.fn.ports.items ≡ l.ports.items ++ rest)) × AreApart l.fn.ports.items l.outs l.ins (length l.ports.items)

abbrev pub decreases-loop-port : goal.decreases-loop-port
decreases-loop-port g l = length l.ports.items
