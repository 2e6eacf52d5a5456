-- What a step leaves of the state as it was.
use Rattle.std.proofs.Common.{Bool, List, None, false, length, refl, rules, true, ℕ, ◌<◌, ◌≡◌}
use Rattle.std.specs.List.{list_any}
use Rattle.std.specs.Prelude.{is_some}
use Rattle.fab_base.proofs.Bools.{and_true_right}
use Rattle.fab_base.proofs.Lists.{found}
use Rattle.fab_base.specs.declared.items.ItemHead.{ItemHead}
use Rattle.fab_base.specs.declared.items.Outcome.{Outcome}
use Rattle.fab_base.specs.declared.operations.Arrival.{Arrival}
use Rattle.fab_base.specs.declared.operations.Receive.{Receive}
use Rattle.fab_model.proofs.Passes.{sent_passes}
use Rattle.fab_model.proofs.Removing.{remove_shorter}
use Rattle.fab_model.specs.Arrivals.{do_draw, remote_event, seated as seated_after, seating, stays}
use Rattle.fab_model.specs.Complete.{book, fill, filling, release, release_multi, reply}
use Rattle.fab_model.specs.Matching.{remove_first, takes}
use Rattle.fab_model.specs.Receiving.{draw_due, draws, give, without_first}
use Rattle.fab_model.specs.Sending.{do_sent, transmitting}
use Rattle.fab_model.specs.State.{Receiving, State, raise, with_rx}

pub event_cq : (outcome : Outcome) (head : ItemHead) (s : State) → (remote_event outcome head s).cq ≡ s.cq
event_cq outcome head s = grind rules

pub book_cq : (due : Bool) (source : ℕ) (head : ItemHead) (s : State) → (book due source head s).cq ≡ s.cq
unfolding book reply
book_cq true source head s = refl
book_cq false source head s = refl

pub book_rx : (due : Bool) (source : ℕ) (head : ItemHead) (s : State) → (book due source head s).rx ≡ s.rx
unfolding book reply
book_rx true source head s = refl
book_rx false source head s = refl

pub give_unexpected : (r : Receive) (place : ℕ) (a : Arrival) (s : State) → (release r (give r place a s)).rx.unexpected ≡ s.rx.unexpected
unfolding release_multi give fill book reply
give_unexpected r place a s = grind rules

pub draw_shorter : (s : State) → draw_due s.rx ≡ true → length (do_draw s).rx.unexpected < length s.rx.unexpected
unfolding do_draw
draw_shorter s due =
    let (r, is, wants) = found (draws s.rx.unexpected) s.rx.posted due in
    let any = and_true_right (is_some r.least) (list_any (takes r.want) s.rx.unexpected) wants in
    let (a, at, passes) = found (takes r.want) s.rx.unexpected any in
    rw (is, at, do_draw)
    (rw (give_unexpected r r.used a (with_rx (without_first r.want (seating a.head.total r s.rx.unexpected s.rx)) s))
    (remove_shorter (takes r.want) s.rx.unexpected any))

pub sent_raised : (s : State) (t : ℕ) → (do_sent s t).tx.sent ≡ raise s.tx.sent t
unfolding transmitting
sent_raised s t = (sent_passes s t).sent

pub single_filling : (r : Receive) (place : ℕ) (bytes : List ℕ) (rx : Receiving) → r.least ≡ None → filling r place bytes rx ≡ rx
single_filling r place bytes rx single = rw (single) refl

-- a receive for one message leaves those posted
pub single_seated : (test : Receive → Bool) (total : ℕ) (r : Receive) (posted : List Receive) → r.least ≡ None → seated_after test total r posted ≡ remove_first test posted
single_seated test total r posted e = rw (e, seated_after, stays) refl
