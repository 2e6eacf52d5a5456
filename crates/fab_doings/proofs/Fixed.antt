-- Who an endpoint's peers are, and what it may do, stays but for calls that say so.
use Rattle.std.proofs.Common.{◌≡◌, ℕ, Bool, true, false, List, Option, None, Some, [], refl, rules, ◌∙◌}
use Rattle.std.specs.Prelude.{find}
use Rattle.fab_base.specs.declared.items.ItemHead.{ItemHead}
use Rattle.fab_base.specs.declared.items.Outcome.{Outcome}
use Rattle.fab_base.specs.declared.items.Outcome.TheVariants.{Done, BadKey, BadAccess, BadRange}
use Rattle.fab_base.specs.declared.entries.Taken.TheVariants.{Success}
use Rattle.fab_base.specs.declared.operations.Arrival.{Arrival}
use Rattle.fab_base.specs.declared.operations.Coming.{Coming}
use Rattle.fab_base.specs.declared.operations.Coming.TheVariants.{Into, Keep, Throw, Request, Answer}
use Rattle.fab_base.specs.declared.operations.Operation.{Operation}
use Rattle.fab_base.specs.declared.operations.Receive.{Receive}
use Rattle.fab_model.specs.Arrivals.{do_draw, do_head, do_request, do_tail, keeping, made_whole, remote_data, remote_event, seating, tail_to, with_regions}
use Rattle.fab_model.specs.Complete.{book, fill, is_made_by, let_go, release, release_multi, reply}
use Rattle.fab_base.specs.Kinds.{at_delivery, at_match}
use Rattle.fab_model.specs.Matching.{takes}
use Rattle.fab_model.specs.Receiving.{Posting, draws, give, goes, joining_posted, post, receive_of, taken_by, without_first}
use Rattle.fab_model.specs.Sending.{Order, answering, class_of, do_answer, do_sent, end_with, ending, going_on, is_answered_by, success_of, transmit, transmit_to, transmitting}
use Rattle.fab_model.specs.State.{State, called, coming_from, count, lookup, under_way, with_rx, with_tx, write}
use Rattle.fab_model.specs.Target.{perform}
use Rattle.fab_base.specs.Replies.{at_either}
use Rattle.fab_laws.proofs.matching.Watch as Watch

pub record Fixed (s u : State) : Type 0 where
  pub caps : u.caps ≡ s.caps
  pub av : u.av ≡ s.av

pub then : (s t u : State) → Fixed s t → Fixed t u → Fixed s u
then s t u a b = record { caps = b.caps ∙ a.caps; av = b.av ∙ a.av }

pub still : (s : State) → Fixed s s
still s = record { caps = refl; av = refl }

booked : (b : Bool) (source : ℕ) (head : ItemHead) (s : State) → Fixed s (book b source head s)
unfolding book reply
booked true source head s = record { caps = refl; av = refl }
booked false source head s = still s

filled : (r : Receive) (place source : ℕ) (head : ItemHead) (bytes : List ℕ) (s : State) → Fixed s (fill r place source head bytes s)
unfolding fill
filled r place source head bytes s = record { caps = refl; av = refl }

released : (r : Receive) (s : State) → Fixed s (release r s)
unfolding release_multi
released r s = by_least r.least
  where
    by_way : (m : Receive) (b : Bool) → Fixed s (let u : State = elim b [ true ↦ s | false ↦ let_go m s ] in u)
    by_way m true = still s
    by_way m false = record { caps = refl; av = refl }

    by_find : (o : Option Receive) → Fixed s (let u : State = elim o [ None ↦ s | Some m ↦ elim (under_way s.rx r.call) [ true ↦ s | false ↦ let_go m s ] ] in u)
    by_find None = still s
    by_find (Some m) = by_way m (under_way s.rx r.call)

    by_least : (o : Option ℕ) → Fixed s (let u : State = elim o [ None ↦ s | Some _ ↦ release_multi r.call s ] in u)
    by_least None = still s
    by_least (Some n) = by_find (find (is_made_by r.call) s.rx.closing)

given : (r : Receive) (place : ℕ) (a : Arrival) (s : State) → Fixed s (give r place a s)
unfolding give
given r place a s = go a.bytes
  where
    go : (o : Option (List ℕ)) → Fixed s (let u : State = elim o [ None ↦ with_rx (goes a.source (Into r place) s.rx) s | Some bytes ↦ book (at_match a.head.ack) a.source a.head (fill r place a.source a.head bytes s) ] in u)
    go None = record { caps = refl; av = refl }
    go (Some bytes) = let u : State = fill r place a.source a.head bytes s in then s u (book (at_match a.head.ack) a.source a.head u) (filled r place a.source a.head bytes s) (booked (at_match a.head.ack) a.source a.head u)

ended : (outcome : Outcome) (bytes : List ℕ) (o : Operation) (s : State) → Fixed s (end_with outcome bytes o s)
unfolding end_with
ended Done bytes o s = go o.silent
  where
    go : (b : Bool) → Fixed s (let u : State = elim b [ true ↦ count (class_of o.head) true s | false ↦ write (Some o.call) (Success (success_of o bytes)) (count (class_of o.head) true s) ] in u)
    go true = record { caps = refl; av = refl }
    go false = record { caps = refl; av = refl }
ended BadKey bytes o s = record { caps = refl; av = refl }
ended BadAccess bytes o s = record { caps = refl; av = refl }
ended BadRange bytes o s = record { caps = refl; av = refl }

pub sent_fixed : (s : State) (t : ℕ) → Fixed s (do_sent s t)
unfolding do_sent
sent_fixed s t = go (ending t s.tx)
  where
    go : (o : Option Operation) → Fixed s (let u : State = elim o [ None ↦ with_tx (transmitting t s.tx) s | Some o ↦ end_with Done [] o (with_tx (going_on t (transmitting t s.tx)) s) ] in u)
    go None = record { caps = refl; av = refl }
    go (Some o) = let u : State = with_tx (going_on t (transmitting t s.tx)) s in then s u (end_with Done [] o u) (record { caps = refl; av = refl }) (ended Done [] o u)

answered : (s : State) (source : ℕ) (head : ItemHead) (bytes : List ℕ) → Fixed s (do_answer s source head bytes)
unfolding do_answer
answered s source head bytes = go (find (is_answered_by s.tx source head) s.tx.live)
  where
    go : (o : Option Operation) → Fixed s (let u : State = elim o [ None ↦ s | Some o ↦ end_with head.outcome bytes o (with_tx (going_on source (answering source head s.tx)) s) ] in u)
    go None = still s
    go (Some o) = let u : State = with_tx (going_on source (answering source head s.tx)) s in then s u (end_with head.outcome bytes o u) (record { caps = refl; av = refl }) (ended head.outcome bytes o u)

event : (w : Outcome) (head : ItemHead) (s : State) → Fixed s (remote_event w head s)
event w head s = record { caps = grind rules; av = grind rules }

data_fixed : (w : Outcome) (source : ℕ) (head : ItemHead) (s : State) → Fixed s (remote_data w source head s)
data_fixed w source head s = record { caps = grind rules; av = grind rules }

requested : (s : State) (source : ℕ) (head : ItemHead) (bytes : List ℕ) → Fixed s (do_request s source head bytes)
unfolding do_request reply
requested s source head bytes =
    let x = perform s.regions head bytes in
    let u : State = reply source head.op x.outcome x.bytes (with_regions x.regions s) in
    let w : State = remote_event x.outcome head u in
    then s u (remote_data x.outcome source head w) (record { caps = refl; av = refl }) (then u w (remote_data x.outcome source head w) (event x.outcome head u) (data_fixed x.outcome source head w))

pub head_fixed : (s : State) (source : ℕ) (head : ItemHead) → Fixed s (do_head s source head)
unfolding do_head
head_fixed s source head = record { caps = grind rules; av = grind rules }

pub draw_fixed : (s : State) → Fixed s (do_draw s)
unfolding do_draw
draw_fixed s = go (find (draws s.rx.unexpected) s.rx.posted)
  where
    by_found : (r : Receive) (o : Option Arrival) → Fixed s (let u : State = elim o [ None ↦ s | Some a ↦ release r (give r r.used a (with_rx (without_first r.want (seating a.head.total r s.rx.unexpected s.rx)) s)) ] in u)
    by_found r None = still s
    by_found r (Some a) =
        let w : State = with_rx (without_first r.want (seating a.head.total r s.rx.unexpected s.rx)) s in
        let u : State = give r r.used a w in
        then s u (release r u) (then s w u (record { caps = refl; av = refl }) (given r r.used a w)) (released r u)

    go : (o : Option Receive) → Fixed s (let u : State = elim o [
      | None ↦ s
      | Some r ↦ elim (find (takes r.want) s.rx.unexpected) [
        | None ↦ s
        | Some a ↦ release r (give r r.used a (with_rx (without_first r.want (seating a.head.total r s.rx.unexpected s.rx)) s))
      ]
    ] in u)
    go None = still s
    go (Some r) = by_found r (find (takes r.want) s.rx.unexpected)

pub tail_fixed : (s : State) (source : ℕ) (head : ItemHead) (bytes : List ℕ) → Fixed s (do_tail s source head bytes)
unfolding do_tail tail_to keeping
tail_fixed s source head bytes = go (coming_from s.rx source)
  where
    go : (c : Option Coming) → Fixed s (tail_to c (with_rx (made_whole source s.rx) s) source head bytes)
    go None = record { caps = refl; av = refl }
    go (Some (Into r place)) =
        let t : State = with_rx (made_whole source s.rx) s in
        let f : State = fill r place source head bytes t in
        let b : State = book (at_either head.ack) source head f in
        then s t (release r b) (record { caps = refl; av = refl }) (then t f (release r b) (filled r place source head bytes t) (then f b (release r b) (booked (at_either head.ack) source head f) (released r b)))
    go (Some Keep) = let t : State = with_rx (keeping source bytes (made_whole source s.rx)) s in then s t (book (at_delivery head.ack) source head t) (record { caps = refl; av = refl }) (booked (at_delivery head.ack) source head t)
    go (Some Throw) = let t : State = with_rx (made_whole source s.rx) s in then s t (book (at_either head.ack) source head t) (record { caps = refl; av = refl }) (booked (at_either head.ack) source head t)
    go (Some Request) = let t : State = with_rx (made_whole source s.rx) s in then s t (do_request t source head bytes) (record { caps = refl; av = refl }) (requested t source head bytes)
    go (Some Answer) = let t : State = with_rx (made_whole source s.rx) s in then s t (do_answer t source head bytes) (record { caps = refl; av = refl }) (answered t source head bytes)

pub transmit_fixed : (s : State) (order : Order) → Fixed s (transmit s order)
unfolding transmit transmit_to
transmit_fixed s order = go (lookup s.av order.dest)
  where
    go : (o : Option ℕ) → Fixed s (let u : State = elim o [ None ↦ s | Some t ↦ transmit_to t s order ] in u)
    go None = still s
    go (Some t) = record { caps = refl; av = refl }

pub post_fixed : (s : State) (q : Posting) → Fixed s (post s q)
unfolding post
post_fixed s q = go (taken_by (receive_of s q) s)
  where
    go : (o : Option Arrival) → Fixed s (let u : State = elim o [
      | None ↦ called (with_rx (joining_posted (receive_of s q) s.rx) s)
      | Some a ↦ give (receive_of s q) 0 a (called (with_rx (without_first (receive_of s q).want s.rx) s))
    ] in u)
    go None = record { caps = refl; av = refl }
    go (Some a) = let u : State = called (with_rx (without_first (receive_of s q).want s.rx) s) in then s u (give (receive_of s q) 0 a u) (record { caps = refl; av = refl }) (given (receive_of s q) 0 a u)
