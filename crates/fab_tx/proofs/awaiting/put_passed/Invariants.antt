use Rattle.std.proofs.Common.{◌≡◌, deque_capacity}
use Rattle.fab_tx.specs.Awaiting.{StillIndexed}
use Rattle.fab_tx.proofs.awaiting.put_passed.Given as goal

abbrev pub invariant-loop : goal.invariant-loop
invariant-loop l = record {
  still : StillIndexed l.fn.index l.fn.queue.items l.index l.queue.items;
  capacity : deque_capacity l.queue ≡ deque_capacity l.fn.queue;
}
