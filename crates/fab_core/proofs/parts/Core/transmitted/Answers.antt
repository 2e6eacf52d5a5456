use Rattle.fab_core.proofs.Lasting.{transmitted_none, transmitted_some}
use Rattle.std.proofs.Common.{ℕ, refl, sym, ap, subst, ◌∙◌}
use Rattle.fab_core.specs.Lent.{HasPlaces}
use Rattle.fab_model.specs.State.{Completions}
use Rattle.fab_core.proofs.Together.{sent_transmitted, size_written, together_besides}
use Rattle.fab_core.proofs.parts.Core.transmitted.Goals as goal

pub invariant_of-self : goal.invariant_of-self
invariant_of-self g c = rw c.finish.ensures.new (c.self.invariant.0, c.self.invariant.1, together_besides _ _ c.self.invariant.2 (ap (λ (cq : Completions). cq.size) c.end.ensures.cq ∙ size_written _ _ _) (sent_transmitted c.args.dest c.self.inside.tx.tx) refl refl refl refl, c.self.invariant.3, rw (c.end.ensures.cq, c.of.ensures, c.empty-bytes.ensures) (transmitted_some (record { caps = c.self.inside.caps; selective = c.self.inside.selective; most_message = c.self.inside.most_message; av = c.self.inside.av; rx = c.self.inside.rx; tx = c.self.inside.tx; target = c.self.inside.target; cq = c.self.inside.cq; counters = c.self.inside.counters; calls = c.self.inside.calls; multis = c.self.inside.multis }) c.self.invariant.4 c.args.dest c.in-Some.ended c.in-Some.ensures.outcome), subst (λ (n : ℕ). HasPlaces c.self.inside.most_rx c.self.inside.av.peers n c.self.inside.multis) (sym (ap (λ (cq : Completions). cq.size) c.end.ensures.cq ∙ size_written _ _ _)) c.self.invariant.5)

pub invariant_of-self-in_default : goal.invariant_of-self-in_default
invariant_of-self-in_default g c = rw c.finish.ensures.new (c.self.invariant.0, c.self.invariant.1, together_besides _ _ c.self.invariant.2 refl (sent_transmitted c.args.dest c.self.inside.tx.tx) refl refl refl refl, c.self.invariant.3, transmitted_none (record { caps = c.self.inside.caps; selective = c.self.inside.selective; most_message = c.self.inside.most_message; av = c.self.inside.av; rx = c.self.inside.rx; tx = c.self.inside.tx; target = c.self.inside.target; cq = c.self.inside.cq; counters = c.self.inside.counters; calls = c.self.inside.calls; multis = c.self.inside.multis }) c.self.invariant.4 c.args.dest c.finish.result c.finish.ensures.outcome c.in_default.not-Some, c.self.invariant.5)
