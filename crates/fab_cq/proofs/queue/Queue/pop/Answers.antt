use Rattle.std.proofs.Common.{ap, arith, length, subst}
use Rattle.fab_cq.proofs.Unread.{first_is_next}
use Rattle.fab_cq.specs.Queues.{IsNext}
use Rattle.fab_cq.proofs.queue.Queue.pop.Goals as goal

pub returns-clause-entry : goal.returns-clause-entry
returns-clause-entry c =
    let took = c.in_ok-entry.ensures in
    subst (IsNext c.in_ok-entry.entry) c.self.view_is (first_is_next c.self.invariant c.in_ok-entry.entry (omega (arith, ap length took.items)) took.lookup)
