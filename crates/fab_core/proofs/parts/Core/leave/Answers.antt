use Rattle.std.proofs.Common.{◌∙◌, refl, sym, ap}
use Rattle.fab_model.specs.State.{Completions}
use Rattle.fab_rx.specs.Arriving.{Arriving}
use Rattle.fab_core.specs.Parts.{Parts}
use Rattle.fab_core.proofs.Lasting.{left_some, left_together}
use Rattle.fab_core.proofs.parts.Core.leave.Goals as goal

pub invariant_of-self : goal.invariant_of-self
invariant_of-self g c =
    let p : Parts = record { caps = c.self.inside.caps; selective = c.self.inside.selective; most_message = c.self.inside.most_message; av = c.self.inside.av; rx = c.self.inside.rx; tx = c.self.inside.tx; target = c.self.inside.target; cq = c.self.inside.cq; counters = c.self.inside.counters; calls = c.self.inside.calls; multis = c.self.inside.multis } in (
      c.self.invariant.0,
      c.self.invariant.1 ∙ sym (ap (λ (v : Arriving). v.most) c.withdraw.ensures.rest),
      left_together p _ c.self.invariant.2 c.args.ctx c.withdraw.ensures.rest (ap (λ (cq : Completions). cq.size) c.write.ensures.written) refl refl c.call.ensures,
      rw c.withdraw.ensures.rest c.self.invariant.3,
      rw (c.withdraw.ensures.rest, c.write.ensures.written, c.call.ensures, c.canceled.ensures, c.of.ensures, c.let_any_go.ensures, c.waiting.ensures) (left_some p c.self.invariant.4 c.opened.ensures c.self.invariant.2.earlier c.args.ctx c.in-Some.left (sym c.in-Some.is ∙ c.withdraw.ensures.found)),
      rw (c.write.ensures.written, c.let_any_go.ensures) c.self.invariant.5,
    )
