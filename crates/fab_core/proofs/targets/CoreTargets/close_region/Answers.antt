use Rattle.fab_core.specs.Parts.{Parts}
use Rattle.fab_core.proofs.Registered.{closes}
use Rattle.fab_core.proofs.targets.CoreTargets.close_region.Goals as goal

pub returns-clause-ok : goal.returns-clause-ok
returns-clause-ok g c =
    let p : Parts = record { caps = c.self.inside.caps; selective = c.self.inside.selective; most_message = c.self.inside.most_message; av = c.self.inside.av; rx = c.self.inside.rx; tx = c.self.inside.tx; target = c.self.inside.target; cq = c.self.inside.cq; counters = c.self.inside.counters; calls = c.self.inside.calls; multis = c.self.inside.multis } in
    rw (← c.self.view_is) ((closes p c.args.key c.close.result c.close.new.self c.close.ensures.answer c.close.ensures.rest c.close.ensures.err).ok)

pub returns-clause-err : goal.returns-clause-err
returns-clause-err g c =
    let p : Parts = record { caps = c.self.inside.caps; selective = c.self.inside.selective; most_message = c.self.inside.most_message; av = c.self.inside.av; rx = c.self.inside.rx; tx = c.self.inside.tx; target = c.self.inside.target; cq = c.self.inside.cq; counters = c.self.inside.counters; calls = c.self.inside.calls; multis = c.self.inside.multis } in
    rw (← c.self.view_is) ((closes p c.args.key c.close.result c.close.new.self c.close.ensures.answer c.close.ensures.rest c.close.ensures.err).err)
