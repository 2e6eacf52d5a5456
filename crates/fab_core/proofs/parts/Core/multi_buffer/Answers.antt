use Rattle.std.proofs.Common.{◌≡◌, ◌∙◌, Some, None, sym, ap, subst}
use Rattle.std.specs.Prelude.{IfNone, IfSome}
use Rattle.fab_face.specs.Answers.{multi_of}
use Rattle.fab_settling.specs.declared.places.Place.{Place}
use Rattle.fab_core.specs.Parts.{Parts, held_of}
use Rattle.fab_core.specs.Multis.{HasBuffer}
use Rattle.fab_core.proofs.Lends.{if_ended, if_ended_not, if_open, if_open_not, lends_no_one, no_place, none_of_place}
use Rattle.fab_core.proofs.parts.Core.multi_buffer.Goals as goal

pub returns-in_default-clause-none : goal.returns-in_default-clause-none
returns-in_default-clause-none g c =
    let p : Parts = record { caps = c.self.inside.caps; selective = c.self.inside.selective; most_message = c.self.inside.most_message; av = c.self.inside.av; rx = c.self.inside.rx; tx = c.self.inside.tx; target = c.self.inside.target; cq = c.self.inside.cq; counters = c.self.inside.counters; calls = c.self.inside.calls; multis = c.self.inside.multis } in
    subst (λ (p : Parts). multi_of (held_of p) c.args.ctx ≡ None) c.self.view_is (lends_no_one p c.self.invariant.4 c.args.ctx (none_of_place _ (sym c.place_of.ensures ∙ no_place c.place_of.result c.in_default.not-Some)))

pub returns-in-Open-clause-some : goal.returns-in-Open-clause-some
returns-in-Open-clause-some g c =
    let p : Parts = record { caps = c.self.inside.caps; selective = c.self.inside.selective; most_message = c.self.inside.most_message; av = c.self.inside.av; rx = c.self.inside.rx; tx = c.self.inside.tx; target = c.self.inside.target; cq = c.self.inside.cq; counters = c.self.inside.counters; calls = c.self.inside.calls; multis = c.self.inside.multis } in
    subst (λ (p : Parts). IfSome c.buffer_of.result (λ bytes. HasBuffer (held_of p) c.args.ctx bytes.now)) c.self.view_is (if_open p c.self.invariant.4 c.args.ctx (λ bytes. bytes.now) c.buffer_of.result c.in-Open.id (sym c.place_of.ensures ∙ c.in-Some.is ∙ ap (λ (q : Place). Some q) c.in-Open.is) c.buffer_of.ensures.some)

pub returns-in-Open-clause-none : goal.returns-in-Open-clause-none
returns-in-Open-clause-none g c =
    let p : Parts = record { caps = c.self.inside.caps; selective = c.self.inside.selective; most_message = c.self.inside.most_message; av = c.self.inside.av; rx = c.self.inside.rx; tx = c.self.inside.tx; target = c.self.inside.target; cq = c.self.inside.cq; counters = c.self.inside.counters; calls = c.self.inside.calls; multis = c.self.inside.multis } in
    subst (λ (p : Parts). IfNone c.buffer_of.result (multi_of (held_of p) c.args.ctx ≡ None)) c.self.view_is (if_open_not p c.self.invariant.4 c.args.ctx (λ bytes. bytes.now) c.buffer_of.result c.in-Open.id (sym c.place_of.ensures ∙ c.in-Some.is ∙ ap (λ (q : Place). Some q) c.in-Open.is) c.buffer_of.ensures.none)

pub returns-in-Ended-clause-some : goal.returns-in-Ended-clause-some
returns-in-Ended-clause-some g c =
    let p : Parts = record { caps = c.self.inside.caps; selective = c.self.inside.selective; most_message = c.self.inside.most_message; av = c.self.inside.av; rx = c.self.inside.rx; tx = c.self.inside.tx; target = c.self.inside.target; cq = c.self.inside.cq; counters = c.self.inside.counters; calls = c.self.inside.calls; multis = c.self.inside.multis } in
    subst (λ (p : Parts). IfSome c.buffer_at.result (λ bytes. HasBuffer (held_of p) c.args.ctx bytes.now)) c.self.view_is (if_ended p c.self.invariant.4 c.args.ctx (λ bytes. bytes.now) c.buffer_at.result c.in-Ended.before (sym c.place_of.ensures ∙ c.in-Some.is ∙ ap (λ (q : Place). Some q) c.in-Ended.is) c.buffer_at.ensures.some)

pub returns-in-Ended-clause-none : goal.returns-in-Ended-clause-none
returns-in-Ended-clause-none g c =
    let p : Parts = record { caps = c.self.inside.caps; selective = c.self.inside.selective; most_message = c.self.inside.most_message; av = c.self.inside.av; rx = c.self.inside.rx; tx = c.self.inside.tx; target = c.self.inside.target; cq = c.self.inside.cq; counters = c.self.inside.counters; calls = c.self.inside.calls; multis = c.self.inside.multis } in
    subst (λ (p : Parts). IfNone c.buffer_at.result (multi_of (held_of p) c.args.ctx ≡ None)) c.self.view_is (if_ended_not p c.self.invariant.4 c.args.ctx (λ bytes. bytes.now) c.buffer_at.result c.in-Ended.before (sym c.place_of.ensures ∙ c.in-Some.is ∙ ap (λ (q : Place). Some q) c.in-Ended.is) c.buffer_at.ensures.none)
