use Rattle.fab_core.specs.Lent.{IsLentBy}
use Rattle.fab_core.proofs.Standing.{tail_lent}
use Rattle.std.proofs.Common.{◌≡◌, ◌∙◌, ◌<◌, ℕ, true, length, sym, subst, refl}
use Rattle.fab_core.specs.Lent.{HasPlaces}
use Rattle.fab_core.proofs.Together.{size_after, size_written}
use Rattle.std.specs.Prelude.{IsSomeAnd, IsTrue, is_some}
use Rattle.fab_base.specs.declared.items.Item.{Item}
use Rattle.fab_model.specs.State.{coming_from}
use Rattle.fab_rx.specs.Arriving.{begun_of}
use Rattle.fab_rx.specs.Results.{ended, handed, last_of}
use Rattle.fab_core.specs.Parts.{Parts}
use Rattle.fab_core.specs.Doing.{tail}
use Rattle.fab_cq.specs.Queues.{has_room}
use Rattle.fab_rx.proofs.Growing.{item_there}
use Rattle.fab_core.proofs.Serves.{serving_served, serving_whole}
use Rattle.fab_core.proofs.Handed.{ended_request, unhanded, received_due, request_room, end_last, last_due, last_there, end_answer, end_kept, end_received, end_thrown, if_begun, of_begun, end_request, request_awaited}
use Rattle.fab_core.proofs.parts.Core.end_item.Goals as goal

pub invariant_of-self : goal.invariant_of-self
invariant_of-self g c =
    let p : Parts = record { caps = c.self.inside.caps; selective = c.self.inside.selective; most_message = c.self.inside.most_message; av = c.self.inside.av; rx = c.self.inside.rx; tx = c.self.inside.tx; target = c.self.inside.target; cq = c.self.inside.cq; counters = c.self.inside.counters; calls = c.self.inside.calls; multis = c.self.inside.multis } in
    let within : c.args.source < length p.rx.begun = subst (λ (p : Parts). c.args.source < length p.rx.begun) (sym c.self.view_is) c.requires.source in
    let there = item_there (λ item. length item.bytes ≡ item.head.total) (begun_of p.rx c.args.source) (subst (λ (p : Parts). IsSomeAnd (begun_of p.rx c.args.source) (λ item. length item.bytes ≡ item.head.total)) (sym c.self.view_is) c.requires.whole) in
    let outcome = sym (of_begun (λ item. c.finish-finished.result ≡ handed p.rx (last_of c.args.source p.rx) (ended (coming_from p.rx.rx c.args.source) c.args.source item)) (begun_of p.rx c.args.source) there.0 there.1 c.finish-finished.ensures.outcome) in
    let end = end_received p c.self.invariant.2 c.known.ensures c.known-2.ensures c.args.source within there.0 there.1 c.in-Received.completed (outcome ∙ c.in-Received.is) in
    rw (c.finish-finished.ensures.new, c.hand_over.ensures.tx, c.hand_over.ensures.cq, c.hand_over.ensures.counters, c.at_either-due.ensures, c.of.ensures) (c.self.invariant.0 ∙ sym end.2, c.self.invariant.1, end.1, serving_whole c.self.inside.rx.begun c.self.inside.target c.self.invariant.3 c.args.source, subst IsLentBy (sym end.0) (tail_lent p c.self.invariant.4 c.opened.ensures c.args.source there.0), c.self.invariant.5)

pub invariant_of-self-in-Kept : goal.invariant_of-self-in-Kept
invariant_of-self-in-Kept g c =
    let p : Parts = record { caps = c.self.inside.caps; selective = c.self.inside.selective; most_message = c.self.inside.most_message; av = c.self.inside.av; rx = c.self.inside.rx; tx = c.self.inside.tx; target = c.self.inside.target; cq = c.self.inside.cq; counters = c.self.inside.counters; calls = c.self.inside.calls; multis = c.self.inside.multis } in
    let within : c.args.source < length p.rx.begun = subst (λ (p : Parts). c.args.source < length p.rx.begun) (sym c.self.view_is) c.requires.source in
    let there = item_there (λ item. length item.bytes ≡ item.head.total) (begun_of p.rx c.args.source) (subst (λ (p : Parts). IsSomeAnd (begun_of p.rx c.args.source) (λ item. length item.bytes ≡ item.head.total)) (sym c.self.view_is) c.requires.whole) in
    let outcome = sym (of_begun (λ item. c.finish-finished.result ≡ handed p.rx (last_of c.args.source p.rx) (ended (coming_from p.rx.rx c.args.source) c.args.source item)) (begun_of p.rx c.args.source) there.0 there.1 c.finish-finished.ensures.outcome) in
    let end = end_kept p c.self.invariant.2 c.known.ensures c.known-2.ensures c.args.source within there.0 there.1 c.in-Kept.head (outcome ∙ c.in-Kept.is) in
    rw (c.finish-finished.ensures.new, c.book.ensures, c.at_delivery.ensures) (c.self.invariant.0 ∙ sym end.2, c.self.invariant.1, end.1, serving_whole c.self.inside.rx.begun c.self.inside.target c.self.invariant.3 c.args.source, subst IsLentBy (sym end.0) (tail_lent p c.self.invariant.4 c.opened.ensures c.args.source there.0), c.self.invariant.5)

pub invariant_of-self-in-Thrown : goal.invariant_of-self-in-Thrown
invariant_of-self-in-Thrown g c =
    let p : Parts = record { caps = c.self.inside.caps; selective = c.self.inside.selective; most_message = c.self.inside.most_message; av = c.self.inside.av; rx = c.self.inside.rx; tx = c.self.inside.tx; target = c.self.inside.target; cq = c.self.inside.cq; counters = c.self.inside.counters; calls = c.self.inside.calls; multis = c.self.inside.multis } in
    let within : c.args.source < length p.rx.begun = subst (λ (p : Parts). c.args.source < length p.rx.begun) (sym c.self.view_is) c.requires.source in
    let there = item_there (λ item. length item.bytes ≡ item.head.total) (begun_of p.rx c.args.source) (subst (λ (p : Parts). IsSomeAnd (begun_of p.rx c.args.source) (λ item. length item.bytes ≡ item.head.total)) (sym c.self.view_is) c.requires.whole) in
    let outcome = sym (of_begun (λ item. c.finish-finished.result ≡ handed p.rx (last_of c.args.source p.rx) (ended (coming_from p.rx.rx c.args.source) c.args.source item)) (begun_of p.rx c.args.source) there.0 there.1 c.finish-finished.ensures.outcome) in
    let end = end_thrown p c.self.invariant.2 c.known.ensures c.known-2.ensures c.args.source within there.0 there.1 c.in-Thrown.head (outcome ∙ c.in-Thrown.is) in
    rw (c.finish-finished.ensures.new, c.book-in-Thrown.ensures, c.at_either.ensures) (c.self.invariant.0 ∙ sym end.2, c.self.invariant.1, end.1, serving_whole c.self.inside.rx.begun c.self.inside.target c.self.invariant.3 c.args.source, subst IsLentBy (sym end.0) (tail_lent p c.self.invariant.4 c.opened.ensures c.args.source there.0), c.self.invariant.5)

pub invariant_of-self-2 : goal.invariant_of-self-2
invariant_of-self-2 g c =
    let p : Parts = record { caps = c.self.inside.caps; selective = c.self.inside.selective; most_message = c.self.inside.most_message; av = c.self.inside.av; rx = c.self.inside.rx; tx = c.self.inside.tx; target = c.self.inside.target; cq = c.self.inside.cq; counters = c.self.inside.counters; calls = c.self.inside.calls; multis = c.self.inside.multis } in
    let within : c.args.source < length p.rx.begun = subst (λ (p : Parts). c.args.source < length p.rx.begun) (sym c.self.view_is) c.requires.source in
    let there = item_there (λ item. length item.bytes ≡ item.head.total) (begun_of p.rx c.args.source) (subst (λ (p : Parts). IsSomeAnd (begun_of p.rx c.args.source) (λ item. length item.bytes ≡ item.head.total)) (sym c.self.view_is) c.requires.whole) in
    let outcome = sym (of_begun (λ item. c.finish-finished.result ≡ handed p.rx (last_of c.args.source p.rx) (ended (coming_from p.rx.rx c.args.source) c.args.source item)) (begun_of p.rx c.args.source) there.0 there.1 c.finish-finished.ensures.outcome) in
    let end = end_answer p c.self.invariant.2 c.known.ensures c.known-2.ensures c.args.source within there.0 there.1 c.in-Answer.item (outcome ∙ c.in-Answer.is) in
    rw (c.finish-finished.ensures.new, c.answer.ensures.tx, c.answer.ensures.cq, c.answer.ensures.counters) (c.self.invariant.0 ∙ sym end.2, c.self.invariant.1, end.1, serving_whole c.self.inside.rx.begun c.self.inside.target c.self.invariant.3 c.args.source, subst IsLentBy (sym end.0) (tail_lent p c.self.invariant.4 c.opened.ensures c.args.source there.0), subst (λ (n : ℕ). HasPlaces c.self.inside.most_rx c.self.inside.av.peers n c.self.inside.multis) (sym (size_after _ _ _ _)) c.self.invariant.5)

pub returns-in-Received : goal.returns-in-Received
returns-in-Received g c =
    let p : Parts = record { caps = c.self.inside.caps; selective = c.self.inside.selective; most_message = c.self.inside.most_message; av = c.self.inside.av; rx = c.self.inside.rx; tx = c.self.inside.tx; target = c.self.inside.target; cq = c.self.inside.cq; counters = c.self.inside.counters; calls = c.self.inside.calls; multis = c.self.inside.multis } in
    let within : c.args.source < length p.rx.begun = subst (λ (p : Parts). c.args.source < length p.rx.begun) (sym c.self.view_is) c.requires.source in
    let there = item_there (λ item. length item.bytes ≡ item.head.total) (begun_of p.rx c.args.source) (subst (λ (p : Parts). IsSomeAnd (begun_of p.rx c.args.source) (λ item. length item.bytes ≡ item.head.total)) (sym c.self.view_is) c.requires.whole) in
    let outcome = sym (of_begun (λ item. c.finish-finished.result ≡ handed p.rx (last_of c.args.source p.rx) (ended (coming_from p.rx.rx c.args.source) c.args.source item)) (begun_of p.rx c.args.source) there.0 there.1 c.finish-finished.ensures.outcome) in
    let end = end_received p c.self.invariant.2 c.known.ensures c.known-2.ensures c.args.source within there.0 there.1 c.in-Received.completed (outcome ∙ c.in-Received.is) in
    rw (← c.self.view_is, c.finish-finished.ensures.new, c.hand_over.ensures.tx, c.hand_over.ensures.cq, c.hand_over.ensures.counters, c.at_either-due.ensures, c.of.ensures) (if_begun (λ item. _ ≡ tail c.args.source item p) (begun_of p.rx c.args.source) there.0 there.1 end.0)

pub returns-in-Kept : goal.returns-in-Kept
returns-in-Kept g c =
    let p : Parts = record { caps = c.self.inside.caps; selective = c.self.inside.selective; most_message = c.self.inside.most_message; av = c.self.inside.av; rx = c.self.inside.rx; tx = c.self.inside.tx; target = c.self.inside.target; cq = c.self.inside.cq; counters = c.self.inside.counters; calls = c.self.inside.calls; multis = c.self.inside.multis } in
    let within : c.args.source < length p.rx.begun = subst (λ (p : Parts). c.args.source < length p.rx.begun) (sym c.self.view_is) c.requires.source in
    let there = item_there (λ item. length item.bytes ≡ item.head.total) (begun_of p.rx c.args.source) (subst (λ (p : Parts). IsSomeAnd (begun_of p.rx c.args.source) (λ item. length item.bytes ≡ item.head.total)) (sym c.self.view_is) c.requires.whole) in
    let outcome = sym (of_begun (λ item. c.finish-finished.result ≡ handed p.rx (last_of c.args.source p.rx) (ended (coming_from p.rx.rx c.args.source) c.args.source item)) (begun_of p.rx c.args.source) there.0 there.1 c.finish-finished.ensures.outcome) in
    let end = end_kept p c.self.invariant.2 c.known.ensures c.known-2.ensures c.args.source within there.0 there.1 c.in-Kept.head (outcome ∙ c.in-Kept.is) in
    rw (← c.self.view_is, c.finish-finished.ensures.new, c.book.ensures, c.at_delivery.ensures) (if_begun (λ item. _ ≡ tail c.args.source item p) (begun_of p.rx c.args.source) there.0 there.1 end.0)

pub returns-in-Thrown : goal.returns-in-Thrown
returns-in-Thrown g c =
    let p : Parts = record { caps = c.self.inside.caps; selective = c.self.inside.selective; most_message = c.self.inside.most_message; av = c.self.inside.av; rx = c.self.inside.rx; tx = c.self.inside.tx; target = c.self.inside.target; cq = c.self.inside.cq; counters = c.self.inside.counters; calls = c.self.inside.calls; multis = c.self.inside.multis } in
    let within : c.args.source < length p.rx.begun = subst (λ (p : Parts). c.args.source < length p.rx.begun) (sym c.self.view_is) c.requires.source in
    let there = item_there (λ item. length item.bytes ≡ item.head.total) (begun_of p.rx c.args.source) (subst (λ (p : Parts). IsSomeAnd (begun_of p.rx c.args.source) (λ item. length item.bytes ≡ item.head.total)) (sym c.self.view_is) c.requires.whole) in
    let outcome = sym (of_begun (λ item. c.finish-finished.result ≡ handed p.rx (last_of c.args.source p.rx) (ended (coming_from p.rx.rx c.args.source) c.args.source item)) (begun_of p.rx c.args.source) there.0 there.1 c.finish-finished.ensures.outcome) in
    let end = end_thrown p c.self.invariant.2 c.known.ensures c.known-2.ensures c.args.source within there.0 there.1 c.in-Thrown.head (outcome ∙ c.in-Thrown.is) in
    rw (← c.self.view_is, c.finish-finished.ensures.new, c.book-in-Thrown.ensures, c.at_either.ensures) (if_begun (λ item. _ ≡ tail c.args.source item p) (begun_of p.rx c.args.source) there.0 there.1 end.0)

pub returns : goal.returns
returns g c =
    let p : Parts = record { caps = c.self.inside.caps; selective = c.self.inside.selective; most_message = c.self.inside.most_message; av = c.self.inside.av; rx = c.self.inside.rx; tx = c.self.inside.tx; target = c.self.inside.target; cq = c.self.inside.cq; counters = c.self.inside.counters; calls = c.self.inside.calls; multis = c.self.inside.multis } in
    let within : c.args.source < length p.rx.begun = subst (λ (p : Parts). c.args.source < length p.rx.begun) (sym c.self.view_is) c.requires.source in
    let there = item_there (λ item. length item.bytes ≡ item.head.total) (begun_of p.rx c.args.source) (subst (λ (p : Parts). IsSomeAnd (begun_of p.rx c.args.source) (λ item. length item.bytes ≡ item.head.total)) (sym c.self.view_is) c.requires.whole) in
    let outcome = sym (of_begun (λ item. c.finish-finished.result ≡ handed p.rx (last_of c.args.source p.rx) (ended (coming_from p.rx.rx c.args.source) c.args.source item)) (begun_of p.rx c.args.source) there.0 there.1 c.finish-finished.ensures.outcome) in
    let end = end_answer p c.self.invariant.2 c.known.ensures c.known-2.ensures c.args.source within there.0 there.1 c.in-Answer.item (outcome ∙ c.in-Answer.is) in
    rw (← c.self.view_is, c.finish-finished.ensures.new, c.answer.ensures.tx, c.answer.ensures.cq, c.answer.ensures.counters) (if_begun (λ item. _ ≡ tail c.args.source item p) (begun_of p.rx c.args.source) there.0 there.1 end.0)

pub serve-requires-clause-sound : goal.serve-requires-clause-sound
serve-requires-clause-sound g c =
    let p : Parts = record { caps = c.self.inside.caps; selective = c.self.inside.selective; most_message = c.self.inside.most_message; av = c.self.inside.av; rx = c.self.inside.rx; tx = c.self.inside.tx; target = c.self.inside.target; cq = c.self.inside.cq; counters = c.self.inside.counters; calls = c.self.inside.calls; multis = c.self.inside.multis } in
    let within : c.args.source < length p.rx.begun = subst (λ (p : Parts). c.args.source < length p.rx.begun) (sym c.self.view_is) c.requires.source in
    let there = item_there (λ item. length item.bytes ≡ item.head.total) (begun_of p.rx c.args.source) (subst (λ (p : Parts). IsSomeAnd (begun_of p.rx c.args.source) (λ item. length item.bytes ≡ item.head.total)) (sym c.self.view_is) c.requires.whole) in
    let outcome = sym (of_begun (λ item. c.finish-finished.result ≡ handed p.rx (last_of c.args.source p.rx) (ended (coming_from p.rx.rx c.args.source) c.args.source item)) (begun_of p.rx c.args.source) there.0 there.1 c.finish-finished.ensures.outcome) in
    (request_awaited p c.self.invariant.2 c.known.ensures c.known-2.ensures c.args.source within there.0 there.1 c.self.inside.target c.self.invariant.3 c.in-Request.item (outcome ∙ c.in-Request.is)).0

pub serve-requires-clause-whole : goal.serve-requires-clause-whole
serve-requires-clause-whole g c =
    let p : Parts = record { caps = c.self.inside.caps; selective = c.self.inside.selective; most_message = c.self.inside.most_message; av = c.self.inside.av; rx = c.self.inside.rx; tx = c.self.inside.tx; target = c.self.inside.target; cq = c.self.inside.cq; counters = c.self.inside.counters; calls = c.self.inside.calls; multis = c.self.inside.multis } in
    let within : c.args.source < length p.rx.begun = subst (λ (p : Parts). c.args.source < length p.rx.begun) (sym c.self.view_is) c.requires.source in
    let there = item_there (λ item. length item.bytes ≡ item.head.total) (begun_of p.rx c.args.source) (subst (λ (p : Parts). IsSomeAnd (begun_of p.rx c.args.source) (λ item. length item.bytes ≡ item.head.total)) (sym c.self.view_is) c.requires.whole) in
    let outcome = sym (of_begun (λ item. c.finish-finished.result ≡ handed p.rx (last_of c.args.source p.rx) (ended (coming_from p.rx.rx c.args.source) c.args.source item)) (begun_of p.rx c.args.source) there.0 there.1 c.finish-finished.ensures.outcome) in
    let came = ended_request (coming_from p.rx.rx c.args.source) c.args.source there.0 c.in-Request.item (unhanded p.rx (last_of c.args.source p.rx) (ended (coming_from p.rx.rx c.args.source) c.args.source there.0) _ (outcome ∙ c.in-Request.is) (λ x y same. absurd (cc))) in
    subst (λ (i : Item). length i.bytes ≡ i.head.total) (sym came.1) there.2

pub invariant_of-self-in-Request : goal.invariant_of-self-in-Request
invariant_of-self-in-Request g c =
    let p : Parts = record { caps = c.self.inside.caps; selective = c.self.inside.selective; most_message = c.self.inside.most_message; av = c.self.inside.av; rx = c.self.inside.rx; tx = c.self.inside.tx; target = c.self.inside.target; cq = c.self.inside.cq; counters = c.self.inside.counters; calls = c.self.inside.calls; multis = c.self.inside.multis } in
    let within : c.args.source < length p.rx.begun = subst (λ (p : Parts). c.args.source < length p.rx.begun) (sym c.self.view_is) c.requires.source in
    let there = item_there (λ item. length item.bytes ≡ item.head.total) (begun_of p.rx c.args.source) (subst (λ (p : Parts). IsSomeAnd (begun_of p.rx c.args.source) (λ item. length item.bytes ≡ item.head.total)) (sym c.self.view_is) c.requires.whole) in
    let outcome = sym (of_begun (λ item. c.finish-finished.result ≡ handed p.rx (last_of c.args.source p.rx) (ended (coming_from p.rx.rx c.args.source) c.args.source item)) (begun_of p.rx c.args.source) there.0 there.1 c.finish-finished.ensures.outcome) in
    let end = end_request p c.self.invariant.2 c.known.ensures c.known-2.ensures c.args.source within there.0 there.1 c.in-Request.item (outcome ∙ c.in-Request.is) in
    rw (c.finish-finished.ensures.new, c.serve.ensures.tx, c.serve.ensures.cq, c.serve.ensures.counters, c.serve.ensures.target) (c.self.invariant.0 ∙ sym end.2, c.self.invariant.1, end.1, serving_served c.self.inside.rx.begun c.self.inside.target c.self.invariant.3 c.args.source 0 _ refl, subst IsLentBy (sym end.0) (tail_lent p c.self.invariant.4 c.opened.ensures c.args.source there.0), subst (λ (n : ℕ). HasPlaces c.self.inside.most_rx c.self.inside.av.peers n c.self.inside.multis) (sym (size_written _ _ _)) c.self.invariant.5)

pub hand_last-requires-clause-written : goal.hand_last-requires-clause-written
hand_last-requires-clause-written g c =
    let p : Parts = record { caps = c.self.inside.caps; selective = c.self.inside.selective; most_message = c.self.inside.most_message; av = c.self.inside.av; rx = c.self.inside.rx; tx = c.self.inside.tx; target = c.self.inside.target; cq = c.self.inside.cq; counters = c.self.inside.counters; calls = c.self.inside.calls; multis = c.self.inside.multis } in
    let within : c.args.source < length p.rx.begun = subst (λ (p : Parts). c.args.source < length p.rx.begun) (sym c.self.view_is) c.requires.source in
    let there = item_there (λ item. length item.bytes ≡ item.head.total) (begun_of p.rx c.args.source) (subst (λ (p : Parts). IsSomeAnd (begun_of p.rx c.args.source) (λ item. length item.bytes ≡ item.head.total)) (sym c.self.view_is) c.requires.whole) in
    let outcome = sym (of_begun (λ item. c.finish-finished.result ≡ handed p.rx (last_of c.args.source p.rx) (ended (coming_from p.rx.rx c.args.source) c.args.source item)) (begun_of p.rx c.args.source) there.0 there.1 c.finish-finished.ensures.outcome) in
    subst (λ (p : Parts). is_some (last_of c.args.source p.rx) ≡ true → IsTrue (has_room 2 p.cq)) (sym c.self.view_is) c.requires.back (last_there p c.self.invariant.2 c.known.ensures c.known-2.ensures c.args.source within there.0 there.1 c.in-Last.completed c.in-Last.released (outcome ∙ c.in-Last.is))

pub hand_last-requires-clause-room : goal.hand_last-requires-clause-room
hand_last-requires-clause-room g c = λ due.
    let p : Parts = record { caps = c.self.inside.caps; selective = c.self.inside.selective; most_message = c.self.inside.most_message; av = c.self.inside.av; rx = c.self.inside.rx; tx = c.self.inside.tx; target = c.self.inside.target; cq = c.self.inside.cq; counters = c.self.inside.counters; calls = c.self.inside.calls; multis = c.self.inside.multis } in
    let within : c.args.source < length p.rx.begun = subst (λ (p : Parts). c.args.source < length p.rx.begun) (sym c.self.view_is) c.requires.source in
    let there = item_there (λ item. length item.bytes ≡ item.head.total) (begun_of p.rx c.args.source) (subst (λ (p : Parts). IsSomeAnd (begun_of p.rx c.args.source) (λ item. length item.bytes ≡ item.head.total)) (sym c.self.view_is) c.requires.whole) in
    let outcome = sym (of_begun (λ item. c.finish-finished.result ≡ handed p.rx (last_of c.args.source p.rx) (ended (coming_from p.rx.rx c.args.source) c.args.source item)) (begun_of p.rx c.args.source) there.0 there.1 c.finish-finished.ensures.outcome) in
    last_due p c.self.invariant.2 c.known.ensures c.known-2.ensures c.args.source within there.0 there.1 c.in-Last.completed c.in-Last.released (outcome ∙ c.in-Last.is) (sym c.at_either-due-in-Last.ensures ∙ due)

pub invariant_of-self-in-Last : goal.invariant_of-self-in-Last
invariant_of-self-in-Last g c =
    let p : Parts = record { caps = c.self.inside.caps; selective = c.self.inside.selective; most_message = c.self.inside.most_message; av = c.self.inside.av; rx = c.self.inside.rx; tx = c.self.inside.tx; target = c.self.inside.target; cq = c.self.inside.cq; counters = c.self.inside.counters; calls = c.self.inside.calls; multis = c.self.inside.multis } in
    let within : c.args.source < length p.rx.begun = subst (λ (p : Parts). c.args.source < length p.rx.begun) (sym c.self.view_is) c.requires.source in
    let there = item_there (λ item. length item.bytes ≡ item.head.total) (begun_of p.rx c.args.source) (subst (λ (p : Parts). IsSomeAnd (begun_of p.rx c.args.source) (λ item. length item.bytes ≡ item.head.total)) (sym c.self.view_is) c.requires.whole) in
    let outcome = sym (of_begun (λ item. c.finish-finished.result ≡ handed p.rx (last_of c.args.source p.rx) (ended (coming_from p.rx.rx c.args.source) c.args.source item)) (begun_of p.rx c.args.source) there.0 there.1 c.finish-finished.ensures.outcome) in
    let end = end_last p c.self.invariant.2 c.known.ensures c.known-2.ensures c.args.source within there.0 there.1 c.in-Last.completed c.in-Last.released (outcome ∙ c.in-Last.is) in
    rw (c.finish-finished.ensures.new, c.hand_last.ensures.tx, c.hand_last.ensures.cq, c.hand_last.ensures.counters, c.hand_last.ensures.multis, c.at_either-due-in-Last.ensures, c.of.ensures) (c.self.invariant.0 ∙ sym end.2, c.self.invariant.1, end.1, serving_whole c.self.inside.rx.begun c.self.inside.target c.self.invariant.3 c.args.source, subst IsLentBy (sym end.0) (tail_lent p c.self.invariant.4 c.opened.ensures c.args.source there.0), c.self.invariant.5)

pub returns-in-Last : goal.returns-in-Last
returns-in-Last g c =
    let p : Parts = record { caps = c.self.inside.caps; selective = c.self.inside.selective; most_message = c.self.inside.most_message; av = c.self.inside.av; rx = c.self.inside.rx; tx = c.self.inside.tx; target = c.self.inside.target; cq = c.self.inside.cq; counters = c.self.inside.counters; calls = c.self.inside.calls; multis = c.self.inside.multis } in
    let within : c.args.source < length p.rx.begun = subst (λ (p : Parts). c.args.source < length p.rx.begun) (sym c.self.view_is) c.requires.source in
    let there = item_there (λ item. length item.bytes ≡ item.head.total) (begun_of p.rx c.args.source) (subst (λ (p : Parts). IsSomeAnd (begun_of p.rx c.args.source) (λ item. length item.bytes ≡ item.head.total)) (sym c.self.view_is) c.requires.whole) in
    let outcome = sym (of_begun (λ item. c.finish-finished.result ≡ handed p.rx (last_of c.args.source p.rx) (ended (coming_from p.rx.rx c.args.source) c.args.source item)) (begun_of p.rx c.args.source) there.0 there.1 c.finish-finished.ensures.outcome) in
    let end = end_last p c.self.invariant.2 c.known.ensures c.known-2.ensures c.args.source within there.0 there.1 c.in-Last.completed c.in-Last.released (outcome ∙ c.in-Last.is) in
    rw (← c.self.view_is, c.finish-finished.ensures.new, c.hand_last.ensures.tx, c.hand_last.ensures.cq, c.hand_last.ensures.counters, c.hand_last.ensures.multis, c.at_either-due-in-Last.ensures, c.of.ensures) (if_begun (λ item. _ ≡ tail c.args.source item p) (begun_of p.rx c.args.source) there.0 there.1 end.0)

pub hand_over-requires-clause-room : goal.hand_over-requires-clause-room
hand_over-requires-clause-room g c = λ due.
    let p : Parts = record { caps = c.self.inside.caps; selective = c.self.inside.selective; most_message = c.self.inside.most_message; av = c.self.inside.av; rx = c.self.inside.rx; tx = c.self.inside.tx; target = c.self.inside.target; cq = c.self.inside.cq; counters = c.self.inside.counters; calls = c.self.inside.calls; multis = c.self.inside.multis } in
    let within : c.args.source < length p.rx.begun = subst (λ (p : Parts). c.args.source < length p.rx.begun) (sym c.self.view_is) c.requires.source in
    let there = item_there (λ item. length item.bytes ≡ item.head.total) (begun_of p.rx c.args.source) (subst (λ (p : Parts). IsSomeAnd (begun_of p.rx c.args.source) (λ item. length item.bytes ≡ item.head.total)) (sym c.self.view_is) c.requires.whole) in
    let outcome = sym (of_begun (λ item. c.finish-finished.result ≡ handed p.rx (last_of c.args.source p.rx) (ended (coming_from p.rx.rx c.args.source) c.args.source item)) (begun_of p.rx c.args.source) there.0 there.1 c.finish-finished.ensures.outcome) in
    received_due p c.self.invariant.2 c.known.ensures c.known-2.ensures c.args.source within there.0 there.1 c.in-Received.completed (outcome ∙ c.in-Received.is) (sym c.at_either-due.ensures ∙ due)

pub serve-requires-clause-room : goal.serve-requires-clause-room
serve-requires-clause-room g c =
    let p : Parts = record { caps = c.self.inside.caps; selective = c.self.inside.selective; most_message = c.self.inside.most_message; av = c.self.inside.av; rx = c.self.inside.rx; tx = c.self.inside.tx; target = c.self.inside.target; cq = c.self.inside.cq; counters = c.self.inside.counters; calls = c.self.inside.calls; multis = c.self.inside.multis } in
    let within : c.args.source < length p.rx.begun = subst (λ (p : Parts). c.args.source < length p.rx.begun) (sym c.self.view_is) c.requires.source in
    let there = item_there (λ item. length item.bytes ≡ item.head.total) (begun_of p.rx c.args.source) (subst (λ (p : Parts). IsSomeAnd (begun_of p.rx c.args.source) (λ item. length item.bytes ≡ item.head.total)) (sym c.self.view_is) c.requires.whole) in
    let outcome = sym (of_begun (λ item. c.finish-finished.result ≡ handed p.rx (last_of c.args.source p.rx) (ended (coming_from p.rx.rx c.args.source) c.args.source item)) (begun_of p.rx c.args.source) there.0 there.1 c.finish-finished.ensures.outcome) in
    request_room p c.self.invariant.2 c.known.ensures c.known-2.ensures c.args.source within there.0 there.1 c.in-Request.item (outcome ∙ c.in-Request.is)

pub returns-in-Request : goal.returns-in-Request
returns-in-Request g c =
    let p : Parts = record { caps = c.self.inside.caps; selective = c.self.inside.selective; most_message = c.self.inside.most_message; av = c.self.inside.av; rx = c.self.inside.rx; tx = c.self.inside.tx; target = c.self.inside.target; cq = c.self.inside.cq; counters = c.self.inside.counters; calls = c.self.inside.calls; multis = c.self.inside.multis } in
    let within : c.args.source < length p.rx.begun = subst (λ (p : Parts). c.args.source < length p.rx.begun) (sym c.self.view_is) c.requires.source in
    let there = item_there (λ item. length item.bytes ≡ item.head.total) (begun_of p.rx c.args.source) (subst (λ (p : Parts). IsSomeAnd (begun_of p.rx c.args.source) (λ item. length item.bytes ≡ item.head.total)) (sym c.self.view_is) c.requires.whole) in
    let outcome = sym (of_begun (λ item. c.finish-finished.result ≡ handed p.rx (last_of c.args.source p.rx) (ended (coming_from p.rx.rx c.args.source) c.args.source item)) (begun_of p.rx c.args.source) there.0 there.1 c.finish-finished.ensures.outcome) in
    let end = end_request p c.self.invariant.2 c.known.ensures c.known-2.ensures c.args.source within there.0 there.1 c.in-Request.item (outcome ∙ c.in-Request.is) in
    rw (← c.self.view_is, c.finish-finished.ensures.new, c.serve.ensures.tx, c.serve.ensures.cq, c.serve.ensures.counters, c.serve.ensures.target) (if_begun (λ item. _ ≡ tail c.args.source item p) (begun_of p.rx c.args.source) there.0 there.1 end.0)
