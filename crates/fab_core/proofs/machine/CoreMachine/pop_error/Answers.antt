use Rattle.std.proofs.Common.{◌∙◌, refl, sym}
use Rattle.fab_core.specs.Parts.{Parts}
use Rattle.fab_core.proofs.Lasting.{popped_error_is, popped_error_lent}
use Rattle.fab_core.proofs.Together.{together_besides}
use Rattle.fab_core.proofs.machine.CoreMachine.pop_error.Goals as goal

pub invariant_of-self : goal.invariant_of-self
invariant_of-self g c =
    let p : Parts = record { caps = c.self.inside.caps; selective = c.self.inside.selective; most_message = c.self.inside.most_message; av = c.self.inside.av; rx = c.self.inside.rx; tx = c.self.inside.tx; target = c.self.inside.target; cq = c.self.inside.cq; counters = c.self.inside.counters; calls = c.self.inside.calls; multis = c.self.inside.multis } in
    rw (c.in-Ok.ensures.ok, c.read.ensures, c.of-before.ensures) (c.self.invariant.0, c.self.invariant.1, together_besides _ _ c.self.invariant.2 refl refl refl refl refl refl, c.self.invariant.3, popped_error_lent p c.self.invariant.4 c.in-Ok.entry (sym c.in-Ok.is ∙ c.read_err.ensures.answer), c.self.invariant.5)

pub returns-in-Ok-clause-ok : goal.returns-in-Ok-clause-ok
returns-in-Ok-clause-ok g c =
    let p : Parts = record { caps = c.self.inside.caps; selective = c.self.inside.selective; most_message = c.self.inside.most_message; av = c.self.inside.av; rx = c.self.inside.rx; tx = c.self.inside.tx; target = c.self.inside.target; cq = c.self.inside.cq; counters = c.self.inside.counters; calls = c.self.inside.calls; multis = c.self.inside.multis } in
    rw (← c.self.view_is, c.in-Ok.ensures.ok, c.read.ensures, c.of-before.ensures) (popped_error_is p c.self.invariant.4 c.in-Ok.entry (sym c.in-Ok.is ∙ c.read_err.ensures.answer))
