use Rattle.fab_core.specs.Parts.{Parts}
use Rattle.fab_core.proofs.Registered.{puts}
use Rattle.fab_core.proofs.targets.CoreTargets.put.Goals as goal

pub returns-clause-ok : goal.returns-clause-ok
returns-clause-ok g c =
    let p : Parts = record { caps = c.self.inside.caps; selective = c.self.inside.selective; most_message = c.self.inside.most_message; av = c.self.inside.av; rx = c.self.inside.rx; tx = c.self.inside.tx; target = c.self.inside.target; cq = c.self.inside.cq; counters = c.self.inside.counters; calls = c.self.inside.calls; multis = c.self.inside.multis } in
    rw (← c.self.view_is) ((puts p c.args.key c.args.at c.args.src.now c.put.result c.put.new.self c.put.ensures.ok c.put.ensures.err c.put.ensures.answer).ok)

pub returns-clause-err : goal.returns-clause-err
returns-clause-err g c =
    let p : Parts = record { caps = c.self.inside.caps; selective = c.self.inside.selective; most_message = c.self.inside.most_message; av = c.self.inside.av; rx = c.self.inside.rx; tx = c.self.inside.tx; target = c.self.inside.target; cq = c.self.inside.cq; counters = c.self.inside.counters; calls = c.self.inside.calls; multis = c.self.inside.multis } in
    rw (← c.self.view_is) ((puts p c.args.key c.args.at c.args.src.now c.put.result c.put.new.self c.put.ensures.ok c.put.ensures.err c.put.ensures.answer).err)
