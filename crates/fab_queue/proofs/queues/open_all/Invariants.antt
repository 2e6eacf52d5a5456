use Rattle.fab_queue.specs.Made.{AreOpened}
use Rattle.fab_queue.proofs.queues.open_all.Given as goal

abbrev pub invariant-loop-me : goal.invariant-loop-me
invariant-loop-me g l = AreOpened l.fn.outs.items l.outs.items l.fn.ins.items l.ins.items l.all.items l.me
