use Rattle.fab_core.specs.Doing.{called, receive_now, with_arriving}
use Rattle.fab_rx.specs.Arriving.{posting}
use Rattle.std.specs.Prelude.{find}
use Rattle.fab_model.specs.Matching.{takes}
use Rattle.fab_core.proofs.Posting.{posted_lent}
use Rattle.fab_core.specs.Lent.{IsLentBy}
use Rattle.fab_core.proofs.Lasting.{going_given, whole_given}
use Rattle.std.proofs.Common.{subst, ◌∙◌, refl, sym}
use Rattle.fab_core.specs.Parts.{Parts}
use Rattle.fab_core.proofs.Handed.{given_room, given_together, joined_together}
use Rattle.fab_core.proofs.Together.{most_booked}
use Rattle.fab_core.proofs.parts.Core.give.Goals as goal

pub hand_over-requires-clause-room : goal.hand_over-requires-clause-room
hand_over-requires-clause-room g c = λ due.
    let p : Parts = record { caps = c.self.inside.caps; selective = c.self.inside.selective; most_message = c.self.inside.most_message; av = c.self.inside.av; rx = c.self.inside.rx; tx = c.self.inside.tx; target = c.self.inside.target; cq = c.self.inside.cq; counters = c.self.inside.counters; calls = c.self.inside.calls; multis = c.self.inside.multis } in
    given_room p c.self.invariant.2 c.known.ensures c.known-2.ensures c.args.want c.args.buf c.args.ctx c.in-Whole.completed (rw (← c.of-about.ensures) (sym c.post-posted.ensures.outcome) ∙ c.in-Whole.is) (sym c.at_match-due.ensures ∙ due)

pub invariant_of-self : goal.invariant_of-self
invariant_of-self g c =
    let p : Parts = record { caps = c.self.inside.caps; selective = c.self.inside.selective; most_message = c.self.inside.most_message; av = c.self.inside.av; rx = c.self.inside.rx; tx = c.self.inside.tx; target = c.self.inside.target; cq = c.self.inside.cq; counters = c.self.inside.counters; calls = c.self.inside.calls; multis = c.self.inside.multis } in
    let together = given_together p c.self.invariant.2 c.known.ensures c.known-2.ensures c.args.want c.args.buf c.args.ctx c.in-Whole.completed (rw (← c.of-about.ensures) (sym c.post-posted.ensures.outcome) ∙ c.in-Whole.is) _ refl refl refl refl refl in
    rw (c.post-posted.ensures.new, c.call.ensures, c.hand_over.ensures.tx, c.hand_over.ensures.cq, c.hand_over.ensures.counters, c.at_match-due.ensures, c.of-about.ensures) (c.self.invariant.0 ∙ sym (most_booked _ _ _ c.self.inside.tx), c.self.invariant.1, together, c.self.invariant.3, subst IsLentBy (whole_given (receive_now c.args.want c.args.buf c.args.ctx p) (called (with_arriving (posting (receive_now c.args.want c.args.buf c.args.ctx p) p.rx) p)) (find (takes c.args.want) p.rx.rx.unexpected) c.in-Whole.completed (rw (← c.of-about.ensures) (sym c.post-posted.ensures.outcome) ∙ c.in-Whole.is)) (posted_lent p c.self.invariant.4 c.args.want c.args.buf c.args.ctx), c.self.invariant.5)

pub invariant_of-self-in_default : goal.invariant_of-self-in_default
invariant_of-self-in_default g c =
    let p : Parts = record { caps = c.self.inside.caps; selective = c.self.inside.selective; most_message = c.self.inside.most_message; av = c.self.inside.av; rx = c.self.inside.rx; tx = c.self.inside.tx; target = c.self.inside.target; cq = c.self.inside.cq; counters = c.self.inside.counters; calls = c.self.inside.calls; multis = c.self.inside.multis } in
    let together = joined_together p c.self.invariant.2 c.known.ensures c.known-2.ensures c.args.want c.args.buf c.args.ctx c.post-posted.result (rw (← c.of-about.ensures) c.post-posted.ensures.outcome) c.in_default.not-Whole _ refl refl refl refl refl in
    rw (c.post-posted.ensures.new, c.call.ensures, c.of-about.ensures) (c.self.invariant.0, c.self.invariant.1, together, c.self.invariant.3, subst IsLentBy (going_given (receive_now c.args.want c.args.buf c.args.ctx p) (called (with_arriving (posting (receive_now c.args.want c.args.buf c.args.ctx p) p.rx) p)) (find (takes c.args.want) p.rx.rx.unexpected) (λ x e. c.in_default.not-Whole x (rw (← c.of-about.ensures) c.post-posted.ensures.outcome ∙ e))) (posted_lent p c.self.invariant.4 c.args.want c.args.buf c.args.ctx), c.self.invariant.5)
