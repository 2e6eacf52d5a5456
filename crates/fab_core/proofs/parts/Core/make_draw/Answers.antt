use Rattle.fab_core.specs.Lent.{IsLentBy}
use Rattle.fab_core.proofs.Seating.{drew_lent}
use Rattle.std.proofs.Common.{◌≡◌, ◌∙◌, true, refl, sym, subst}
use Rattle.fab_model.specs.Receiving.{draw_due}
use Rattle.fab_cq.specs.Queues.{has_room}
use Rattle.fab_rx.specs.Drawing.{drawn, entries_drawn}
use Rattle.fab_rx.specs.declared.results.Drawn.TheVariants.{GoesOn, Part, Last}
use Rattle.fab_core.specs.Parts.{Parts}
use Rattle.fab_core.proofs.Drawing.{draw_going, draw_room, draw_together, drew_by, message_of, room_of}
use Rattle.fab_core.proofs.Together.{most_booked}
use Rattle.fab_core.proofs.parts.Core.make_draw.Goals as goal

pub hand_over-requires-clause-written : goal.hand_over-requires-clause-written
hand_over-requires-clause-written g c =
    let p : Parts = record { caps = c.self.inside.caps; selective = c.self.inside.selective; most_message = c.self.inside.most_message; av = c.self.inside.av; rx = c.self.inside.rx; tx = c.self.inside.tx; target = c.self.inside.target; cq = c.self.inside.cq; counters = c.self.inside.counters; calls = c.self.inside.calls; multis = c.self.inside.multis } in
    let due : draw_due p.rx.rx ≡ true = subst (λ (p : Parts). draw_due p.rx.rx ≡ true) (sym c.self.view_is) c.requires.due in
    let room : has_room (entries_drawn (drawn p.rx)) p.cq ≡ true = subst (λ (p : Parts). has_room (entries_drawn (drawn p.rx)) p.cq ≡ true) (sym c.self.view_is) c.requires.room in
    room_of p c.draw-drawn.result c.draw-drawn.ensures.outcome (Part c.in-Part.completed) c.in-Part.is room

pub hand_over-requires-clause-room : goal.hand_over-requires-clause-room
hand_over-requires-clause-room g c = λ at.
    let p : Parts = record { caps = c.self.inside.caps; selective = c.self.inside.selective; most_message = c.self.inside.most_message; av = c.self.inside.av; rx = c.self.inside.rx; tx = c.self.inside.tx; target = c.self.inside.target; cq = c.self.inside.cq; counters = c.self.inside.counters; calls = c.self.inside.calls; multis = c.self.inside.multis } in
    let due : draw_due p.rx.rx ≡ true = subst (λ (p : Parts). draw_due p.rx.rx ≡ true) (sym c.self.view_is) c.requires.due in
    draw_room p c.self.invariant.2 c.known.ensures c.known-2.ensures due c.in-Part.completed (message_of p c.draw-drawn.result c.draw-drawn.ensures.outcome (Part c.in-Part.completed) c.in-Part.is) (sym c.at_match-due.ensures ∙ at)

pub hand_last-requires-clause-written : goal.hand_last-requires-clause-written
hand_last-requires-clause-written g c =
    let p : Parts = record { caps = c.self.inside.caps; selective = c.self.inside.selective; most_message = c.self.inside.most_message; av = c.self.inside.av; rx = c.self.inside.rx; tx = c.self.inside.tx; target = c.self.inside.target; cq = c.self.inside.cq; counters = c.self.inside.counters; calls = c.self.inside.calls; multis = c.self.inside.multis } in
    let due : draw_due p.rx.rx ≡ true = subst (λ (p : Parts). draw_due p.rx.rx ≡ true) (sym c.self.view_is) c.requires.due in
    let room : has_room (entries_drawn (drawn p.rx)) p.cq ≡ true = subst (λ (p : Parts). has_room (entries_drawn (drawn p.rx)) p.cq ≡ true) (sym c.self.view_is) c.requires.room in
    room_of p c.draw-drawn.result c.draw-drawn.ensures.outcome (Last c.in-Last.completed c.in-Last.released) c.in-Last.is room

pub hand_last-requires-clause-room : goal.hand_last-requires-clause-room
hand_last-requires-clause-room g c = λ at.
    let p : Parts = record { caps = c.self.inside.caps; selective = c.self.inside.selective; most_message = c.self.inside.most_message; av = c.self.inside.av; rx = c.self.inside.rx; tx = c.self.inside.tx; target = c.self.inside.target; cq = c.self.inside.cq; counters = c.self.inside.counters; calls = c.self.inside.calls; multis = c.self.inside.multis } in
    let due : draw_due p.rx.rx ≡ true = subst (λ (p : Parts). draw_due p.rx.rx ≡ true) (sym c.self.view_is) c.requires.due in
    draw_room p c.self.invariant.2 c.known.ensures c.known-2.ensures due c.in-Last.completed (message_of p c.draw-drawn.result c.draw-drawn.ensures.outcome (Last c.in-Last.completed c.in-Last.released) c.in-Last.is) (sym c.at_match-due-in-Last.ensures ∙ at)

pub invariant_of-self : goal.invariant_of-self
invariant_of-self g c =
    let p : Parts = record { caps = c.self.inside.caps; selective = c.self.inside.selective; most_message = c.self.inside.most_message; av = c.self.inside.av; rx = c.self.inside.rx; tx = c.self.inside.tx; target = c.self.inside.target; cq = c.self.inside.cq; counters = c.self.inside.counters; calls = c.self.inside.calls; multis = c.self.inside.multis } in
    let due : draw_due p.rx.rx ≡ true = subst (λ (p : Parts). draw_due p.rx.rx ≡ true) (sym c.self.view_is) c.requires.due in
    rw c.draw-drawn.ensures.new (c.self.invariant.0, c.self.invariant.1, draw_going p c.self.invariant.2 c.known.ensures c.known-2.ensures due (message_of p c.draw-drawn.result c.draw-drawn.ensures.outcome (GoesOn) c.in-GoesOn.is) _ refl refl refl refl refl, c.self.invariant.3, subst IsLentBy (sym (drew_by p GoesOn (sym c.in-GoesOn.is ∙ c.draw-drawn.ensures.outcome))) (drew_lent p c.self.invariant.4 c.known.ensures c.opened.ensures c.self.invariant.2.earlier due), c.self.invariant.5)

pub invariant_of-self-in-Part : goal.invariant_of-self-in-Part
invariant_of-self-in-Part g c =
    let p : Parts = record { caps = c.self.inside.caps; selective = c.self.inside.selective; most_message = c.self.inside.most_message; av = c.self.inside.av; rx = c.self.inside.rx; tx = c.self.inside.tx; target = c.self.inside.target; cq = c.self.inside.cq; counters = c.self.inside.counters; calls = c.self.inside.calls; multis = c.self.inside.multis } in
    let due : draw_due p.rx.rx ≡ true = subst (λ (p : Parts). draw_due p.rx.rx ≡ true) (sym c.self.view_is) c.requires.due in
    rw (c.draw-drawn.ensures.new, c.hand_over.ensures.tx, c.hand_over.ensures.cq, c.hand_over.ensures.counters, c.at_match-due.ensures, c.of-about.ensures) (c.self.invariant.0 ∙ sym (most_booked _ _ _ c.self.inside.tx), c.self.invariant.1, draw_together p c.self.invariant.2 c.known.ensures c.known-2.ensures due c.in-Part.completed (message_of p c.draw-drawn.result c.draw-drawn.ensures.outcome (Part c.in-Part.completed) c.in-Part.is) _ refl refl refl refl refl, c.self.invariant.3, subst IsLentBy (sym (drew_by p (Part c.in-Part.completed) (sym c.in-Part.is ∙ c.draw-drawn.ensures.outcome))) (drew_lent p c.self.invariant.4 c.known.ensures c.opened.ensures c.self.invariant.2.earlier due), c.self.invariant.5)

pub invariant_of-self-2 : goal.invariant_of-self-2
invariant_of-self-2 g c =
    let p : Parts = record { caps = c.self.inside.caps; selective = c.self.inside.selective; most_message = c.self.inside.most_message; av = c.self.inside.av; rx = c.self.inside.rx; tx = c.self.inside.tx; target = c.self.inside.target; cq = c.self.inside.cq; counters = c.self.inside.counters; calls = c.self.inside.calls; multis = c.self.inside.multis } in
    let due : draw_due p.rx.rx ≡ true = subst (λ (p : Parts). draw_due p.rx.rx ≡ true) (sym c.self.view_is) c.requires.due in
    rw (c.draw-drawn.ensures.new, c.hand_last.ensures.tx, c.hand_last.ensures.cq, c.hand_last.ensures.counters, c.hand_last.ensures.multis, c.at_match-due-in-Last.ensures, c.of-about.ensures) (c.self.invariant.0 ∙ sym (most_booked _ _ _ c.self.inside.tx), c.self.invariant.1, draw_together p c.self.invariant.2 c.known.ensures c.known-2.ensures due c.in-Last.completed (message_of p c.draw-drawn.result c.draw-drawn.ensures.outcome (Last c.in-Last.completed c.in-Last.released) c.in-Last.is) _ refl refl refl refl refl, c.self.invariant.3, subst IsLentBy (sym (drew_by p (Last c.in-Last.completed c.in-Last.released) (sym c.in-Last.is ∙ c.draw-drawn.ensures.outcome))) (drew_lent p c.self.invariant.4 c.known.ensures c.opened.ensures c.self.invariant.2.earlier due), c.self.invariant.5)

pub returns-in-GoesOn : goal.returns-in-GoesOn
returns-in-GoesOn g c =
    let p : Parts = record { caps = c.self.inside.caps; selective = c.self.inside.selective; most_message = c.self.inside.most_message; av = c.self.inside.av; rx = c.self.inside.rx; tx = c.self.inside.tx; target = c.self.inside.target; cq = c.self.inside.cq; counters = c.self.inside.counters; calls = c.self.inside.calls; multis = c.self.inside.multis } in
    let due : draw_due p.rx.rx ≡ true = subst (λ (p : Parts). draw_due p.rx.rx ≡ true) (sym c.self.view_is) c.requires.due in
    rw (← c.self.view_is, c.draw-drawn.ensures.new) (drew_by p GoesOn (sym c.in-GoesOn.is ∙ c.draw-drawn.ensures.outcome))

pub returns-in-Part : goal.returns-in-Part
returns-in-Part g c =
    let p : Parts = record { caps = c.self.inside.caps; selective = c.self.inside.selective; most_message = c.self.inside.most_message; av = c.self.inside.av; rx = c.self.inside.rx; tx = c.self.inside.tx; target = c.self.inside.target; cq = c.self.inside.cq; counters = c.self.inside.counters; calls = c.self.inside.calls; multis = c.self.inside.multis } in
    let due : draw_due p.rx.rx ≡ true = subst (λ (p : Parts). draw_due p.rx.rx ≡ true) (sym c.self.view_is) c.requires.due in
    rw (← c.self.view_is, c.draw-drawn.ensures.new, c.hand_over.ensures.tx, c.hand_over.ensures.cq, c.hand_over.ensures.counters, c.at_match-due.ensures, c.of-about.ensures) (drew_by p (Part c.in-Part.completed) (sym c.in-Part.is ∙ c.draw-drawn.ensures.outcome))

pub returns : goal.returns
returns g c =
    let p : Parts = record { caps = c.self.inside.caps; selective = c.self.inside.selective; most_message = c.self.inside.most_message; av = c.self.inside.av; rx = c.self.inside.rx; tx = c.self.inside.tx; target = c.self.inside.target; cq = c.self.inside.cq; counters = c.self.inside.counters; calls = c.self.inside.calls; multis = c.self.inside.multis } in
    let due : draw_due p.rx.rx ≡ true = subst (λ (p : Parts). draw_due p.rx.rx ≡ true) (sym c.self.view_is) c.requires.due in
    rw (← c.self.view_is, c.draw-drawn.ensures.new, c.hand_last.ensures.tx, c.hand_last.ensures.cq, c.hand_last.ensures.counters, c.hand_last.ensures.multis, c.at_match-due-in-Last.ensures, c.of-about.ensures) (drew_by p (Last c.in-Last.completed c.in-Last.released) (sym c.in-Last.is ∙ c.draw-drawn.ensures.outcome))
