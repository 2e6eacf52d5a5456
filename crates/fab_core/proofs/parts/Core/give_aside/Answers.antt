use Rattle.fab_core.specs.Doing.{called, with_arriving}
use Rattle.fab_core.specs.Looks.{claim_receive}
use Rattle.fab_rx.specs.Claims.{taking}
use Rattle.fab_core.proofs.Posting.{taken_lent}
use Rattle.fab_core.specs.Lent.{IsLentBy}
use Rattle.fab_core.proofs.Lasting.{going_given, whole_given}
use Rattle.std.proofs.Common.{◌≡◌, ◌∙◌, true, refl, sym, subst}
use Rattle.std.specs.Prelude.{is_some}
use Rattle.fab_rx.specs.Claims.{claim_under}
use Rattle.fab_core.specs.Parts.{Parts}
use Rattle.fab_core.proofs.Aside.{take_going, take_room, take_together}
use Rattle.fab_core.proofs.Together.{most_booked}
use Rattle.fab_core.proofs.parts.Core.give_aside.Goals as goal

pub hand_over-requires-clause-room : goal.hand_over-requires-clause-room
hand_over-requires-clause-room g c = λ due.
    let p : Parts = record { caps = c.self.inside.caps; selective = c.self.inside.selective; most_message = c.self.inside.most_message; av = c.self.inside.av; rx = c.self.inside.rx; tx = c.self.inside.tx; target = c.self.inside.target; cq = c.self.inside.cq; counters = c.self.inside.counters; calls = c.self.inside.calls; multis = c.self.inside.multis } in
    let there : is_some (claim_under c.args.ctx p.rx.rx) ≡ true = subst (λ (p : Parts). is_some (claim_under c.args.ctx p.rx.rx) ≡ true) (sym c.self.view_is) c.requires.claimed in
    take_room p c.self.invariant.2 c.known.ensures c.known-2.ensures c.args.ctx c.args.buf there c.in-Whole.completed (rw (← c.of-about.ensures) (sym c.take-posted.ensures.outcome) ∙ c.in-Whole.is) (sym c.at_match-due.ensures ∙ due)

pub invariant_of-self : goal.invariant_of-self
invariant_of-self g c =
    let p : Parts = record { caps = c.self.inside.caps; selective = c.self.inside.selective; most_message = c.self.inside.most_message; av = c.self.inside.av; rx = c.self.inside.rx; tx = c.self.inside.tx; target = c.self.inside.target; cq = c.self.inside.cq; counters = c.self.inside.counters; calls = c.self.inside.calls; multis = c.self.inside.multis } in
    let there : is_some (claim_under c.args.ctx p.rx.rx) ≡ true = subst (λ (p : Parts). is_some (claim_under c.args.ctx p.rx.rx) ≡ true) (sym c.self.view_is) c.requires.claimed in
    let together = take_together p c.self.invariant.2 c.known.ensures c.known-2.ensures c.args.ctx c.args.buf there c.in-Whole.completed (rw (← c.of-about.ensures) (sym c.take-posted.ensures.outcome) ∙ c.in-Whole.is) _ refl refl refl refl refl in
    rw (c.take-posted.ensures.new, c.call.ensures, c.hand_over.ensures.tx, c.hand_over.ensures.cq, c.hand_over.ensures.counters, c.at_match-due.ensures, c.of-about.ensures) (c.self.invariant.0 ∙ sym (most_booked _ _ _ c.self.inside.tx), c.self.invariant.1, together, c.self.invariant.3, subst IsLentBy (whole_given (claim_receive c.args.buf c.args.ctx p) (called (with_arriving (taking (claim_receive c.args.buf c.args.ctx p) p.rx) p)) (claim_under c.args.ctx p.rx.rx) c.in-Whole.completed (rw (← c.of-about.ensures) (sym c.take-posted.ensures.outcome) ∙ c.in-Whole.is)) (taken_lent p c.self.invariant.4 c.args.buf c.args.ctx there), c.self.invariant.5)

pub invariant_of-self-in_default : goal.invariant_of-self-in_default
invariant_of-self-in_default g c =
    let p : Parts = record { caps = c.self.inside.caps; selective = c.self.inside.selective; most_message = c.self.inside.most_message; av = c.self.inside.av; rx = c.self.inside.rx; tx = c.self.inside.tx; target = c.self.inside.target; cq = c.self.inside.cq; counters = c.self.inside.counters; calls = c.self.inside.calls; multis = c.self.inside.multis } in
    let there : is_some (claim_under c.args.ctx p.rx.rx) ≡ true = subst (λ (p : Parts). is_some (claim_under c.args.ctx p.rx.rx) ≡ true) (sym c.self.view_is) c.requires.claimed in
    let together = take_going p c.self.invariant.2 c.known.ensures c.known-2.ensures c.args.ctx c.args.buf there c.take-posted.result (rw (← c.of-about.ensures) c.take-posted.ensures.outcome) c.in_default.not-Whole _ refl refl refl refl refl in
    rw (c.take-posted.ensures.new, c.call.ensures, c.of-about.ensures) (c.self.invariant.0, c.self.invariant.1, together, c.self.invariant.3, subst IsLentBy (going_given (claim_receive c.args.buf c.args.ctx p) (called (with_arriving (taking (claim_receive c.args.buf c.args.ctx p) p.rx) p)) (claim_under c.args.ctx p.rx.rx) (λ x e. c.in_default.not-Whole x (rw (← c.of-about.ensures) c.take-posted.ensures.outcome ∙ e))) (taken_lent p c.self.invariant.4 c.args.buf c.args.ctx there), c.self.invariant.5)
