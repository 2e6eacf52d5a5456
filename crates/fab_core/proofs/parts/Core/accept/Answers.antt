use Rattle.fab_core.proofs.Lasting.{accepting_lent}
use Rattle.std.proofs.Common.{◌∙◌, length, refl, sym, ap}
use Rattle.fab_core.specs.Parts.{state_of}
use Rattle.fab_core.proofs.Together.{sent_accepting, together_called}
use Rattle.fab_core.proofs.parts.Core.accept.Goals as goal

pub invariant_of-self : goal.invariant_of-self
invariant_of-self g c = rw (c.accept_owned.ensures, c.call.ensures) (c.self.invariant.0, c.self.invariant.1, together_called _ _ c.self.invariant.2 refl (sent_accepting _ _ _) refl refl refl refl, c.self.invariant.3, accepting_lent c.self.inside.rx.rx c.self.inside.rx.multis c.self.inside.tx.tx c.self.inside.cq c.self.inside.calls c.self.inside.multis c.self.invariant.4 _ _ c.of-about.ensures, c.self.invariant.5)

pub returns : goal.returns
returns g c = rw (c.accept_owned.ensures, c.call.ensures, c.of-about.ensures, c.is_silent-silent.ensures (state_of (record { caps = c.self.inside.caps; selective = c.self.inside.selective; most_message = c.self.inside.most_message; av = c.self.inside.av; rx = c.self.inside.rx; tx = c.self.inside.tx; target = c.self.inside.target; cq = c.self.inside.cq; counters = c.self.inside.counters; calls = c.self.inside.calls; multis = c.self.inside.multis })) c.args.buf refl, c.message_head-head.ensures c.args.buf (ap length (sym c.as_slice.ensures) ∙ sym c.len_of.ensures), c.ops.ensures, ← c.self.view_is) refl
