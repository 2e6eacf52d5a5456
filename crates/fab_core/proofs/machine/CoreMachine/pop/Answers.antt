use Rattle.std.proofs.Common.{◌∙◌, refl, sym}
use Rattle.fab_core.specs.Parts.{Parts}
use Rattle.fab_core.proofs.Lasting.{popped_is, popped_lent, pops_not}
use Rattle.fab_core.proofs.Together.{together_besides}
use Rattle.fab_core.proofs.machine.CoreMachine.pop.Goals as goal

pub invariant_of-self : goal.invariant_of-self
invariant_of-self g c =
    let p : Parts = record { caps = c.self.inside.caps; selective = c.self.inside.selective; most_message = c.self.inside.most_message; av = c.self.inside.av; rx = c.self.inside.rx; tx = c.self.inside.tx; target = c.self.inside.target; cq = c.self.inside.cq; counters = c.self.inside.counters; calls = c.self.inside.calls; multis = c.self.inside.multis } in
    rw (c.in-Ok.ensures.ok, c.read-in-Ok.ensures, c.of-before.ensures) (c.self.invariant.0, c.self.invariant.1, together_besides _ _ c.self.invariant.2 refl refl refl refl refl refl, c.self.invariant.3, popped_lent p c.self.invariant.4 c.in-Ok.entry (sym c.in-Ok.is ∙ c.read.ensures.answer), c.self.invariant.5)

pub returns-in-Ok-clause-ok : goal.returns-in-Ok-clause-ok
returns-in-Ok-clause-ok g c =
    let p : Parts = record { caps = c.self.inside.caps; selective = c.self.inside.selective; most_message = c.self.inside.most_message; av = c.self.inside.av; rx = c.self.inside.rx; tx = c.self.inside.tx; target = c.self.inside.target; cq = c.self.inside.cq; counters = c.self.inside.counters; calls = c.self.inside.calls; multis = c.self.inside.multis } in
    rw (← c.self.view_is, c.in-Ok.ensures.ok, c.read-in-Ok.ensures, c.of-before.ensures) (popped_is p c.self.invariant.4 c.in-Ok.entry (sym c.in-Ok.is ∙ c.read.ensures.answer))

pub returns-clause-err : goal.returns-clause-err
returns-clause-err g c = rw (← c.self.view_is) (pops_not c.self.inside.cq c.in-Err.why (sym c.in-Err.is ∙ c.read.ensures.answer))
