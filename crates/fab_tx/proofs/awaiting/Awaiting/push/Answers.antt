use Rattle.fab_tx.proofs.Indexed.{joins}
use Rattle.fab_tx.proofs.awaiting.Awaiting.push.Goals as goal

pub invariant_of-self : goal.invariant_of-self
invariant_of-self c =
    let inside = c.self.inside in
    rw c.note.ensures (joins inside.order inside.index inside.queue.items c.push_back_reserved.new.self.items c.args.entry c.self.invariant c.push_back_reserved.ensures.items)
