use Rattle.fab_core.proofs.Lasting.{accepting_lent}
use Rattle.std.proofs.Common.{refl}
use Rattle.fab_core.proofs.Asking.{asks_no_message, asks_no_reply}
use Rattle.fab_core.specs.Parts.{state_of}
use Rattle.fab_core.proofs.Together.{sent_accepting, together_called}
use Rattle.fab_core.proofs.parts.Core.ask_copied.Goals as goal

pub accept_copied-requires-clause-own : goal.accept_copied-requires-clause-own
accept_copied-requires-clause-own g c = rw c.request_head-head.ensures (asks_no_reply c.args.request.now.asked)

pub accept_copied-requires-clause-silent : goal.accept_copied-requires-clause-silent
accept_copied-requires-clause-silent g c = rw (c.request_head-head.ensures, asks_no_message c.args.request.now.asked) (λ is. absurd (cc))

pub invariant_of-self : goal.invariant_of-self
invariant_of-self g c = rw (c.accept_copied.ensures, c.call.ensures) (c.self.invariant.0, c.self.invariant.1, together_called _ _ c.self.invariant.2 refl (sent_accepting _ _ _) refl refl refl refl, c.self.invariant.3, accepting_lent c.self.inside.rx.rx c.self.inside.rx.multis c.self.inside.tx.tx c.self.inside.cq c.self.inside.calls c.self.inside.multis c.self.invariant.4 _ _ c.of-about.ensures, c.self.invariant.5)

pub returns : goal.returns
returns g c = rw (c.accept_copied.ensures, c.call.ensures, c.of-about.ensures, c.asks_silently-silent.ensures (state_of (record { caps = c.self.inside.caps; selective = c.self.inside.selective; most_message = c.self.inside.most_message; av = c.self.inside.av; rx = c.self.inside.rx; tx = c.self.inside.tx; target = c.self.inside.target; cq = c.self.inside.cq; counters = c.self.inside.counters; calls = c.self.inside.calls; multis = c.self.inside.multis })) refl, c.request_head-head.ensures, c.ops.ensures, asks_no_message c.args.request.now.asked, ← c.self.view_is) refl
