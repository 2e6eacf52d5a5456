-- What the steps make of the parts is what the machine makes of its state.
use Rattle.std.proofs.Common.{◌≡◌, ℕ, ◌+◌, Bool, true, false, not, ◌&&◌, ◌==◌, cond, List, [], ◌∷◌, append-nil, Option, Some, None, refl, sym, ap, ◌∙◌}
use Rattle.std.proofs.lemmas.Bool.{eqb-true}
use Rattle.std.specs.Prelude.{find, slice_set}
use Rattle.fab_base.specs.declared.entries.ErrKind.{ErrKind}
use Rattle.fab_base.specs.declared.items.Item.{Item}
use Rattle.fab_base.specs.declared.items.ItemHead.{ItemHead}
use Rattle.fab_base.specs.declared.items.Outcome.{Outcome}
use Rattle.fab_base.specs.declared.items.Outcome.TheVariants.{Done, BadKey, BadAccess, BadRange}
use Rattle.fab_base.specs.declared.operations.Arrival.{Arrival}
use Rattle.fab_base.specs.declared.operations.Coming.{Coming}
use Rattle.fab_base.specs.declared.operations.Coming.TheVariants.{Into, Keep, Throw, Request, Answer}
use Rattle.fab_base.specs.declared.operations.Operation.{Operation}
use Rattle.fab_base.specs.declared.operations.Receive.{Receive}
use Rattle.fab_base.specs.declared.peers.Level.{Level}
use Rattle.fab_model.specs.Matching.{remove_first, takes}
use Rattle.fab_base.specs.Kinds.{at_delivery, at_match, is_message, refusal_of}
use Rattle.fab_model.specs.State.{State, Transmitting, awaits, coming_from, under_way}
use Rattle.fab_model.specs.Complete.{book, fill, filling, fill_multi, is_made_by, let_go, release, release_multi, reply}
use Rattle.fab_base.specs.Replies.{at_either}
use Rattle.fab_base.proofs.Bools.{not_true, and_true_right as and_right_true, and_true_left as and_left_true}
use Rattle.fab_model.specs.Receiving.{cancel, cancellable, give, post, without_first}
use Rattle.fab_model.specs.Sending.{answering, do_answer, do_sent, end_with, ending, expects, going_on, is_answered_by, success_of, transmit_to, transmitting}
use Rattle.fab_model.specs.Arrivals.{do_head, do_tail, keeping, made_whole, tail_to}
use Rattle.fab_model.proofs.Firsts.{not_found as without_none}
use Rattle.fab_rx.specs.Arriving.{begun_of, shared, with_receiving, without_closed}
use Rattle.fab_rx.specs.Leaving.{is_meant}
use Rattle.fab_rx.specs.Results.{closed_by, closed_if, completed}
use Rattle.fab_tx.specs.Transit.{finds_answered, seen_buf, with_transmitting}
use Rattle.fab_tx.proofs.Steps.{transmitted_none, transmitted_some}
use Rattle.fab_tx.proofs.Answering.{answered_none, answered_some}
use Rattle.fab_face.specs.declared.machine.Ask.{Ask}
use Rattle.fab_face.specs.declared.machine.Message.{Message}
use Rattle.fab_core.specs.Parts.{IsFitting, Parts, state_of}
use Rattle.fab_settling.specs.Ends.{booked, entry_at_end}
use Rattle.fab_core.specs.Doing.{accepted_by, answered, called, ending_by, heading, left_by, let_back, posted_by, received, receive_now, sent, tail, with_arriving, with_transit}
use Rattle.fab_settling.specs.Orders.{order_of, posting_of, wanted}
use Rattle.fab_core.proofs.Serves.{requested_is}

-- ---- replies

pub book_is : (due : Bool) (source : ℕ) (head : ItemHead) (p : Parts) → book due source head (state_of p) ≡ state_of (with_transit (booked due source head p.tx) p)
unfolding book reply
book_is true source head p = refl
book_is false source head p = refl

-- ---- the end of an operation

-- what is told of a buffer is the buffer, unless the operation is a silent message
seen_of : (o : Operation) → (o.silent ≡ false) → seen_buf o.silent o.head.kind o.buf ≡ o.buf
seen_of o loud = ap (λ b. cond (b && is_message o.head.kind) None o.buf) loud

seen_other : (o : Operation) → is_message o.head.kind ≡ false → seen_buf o.silent o.head.kind o.buf ≡ o.buf
seen_other o other = by o.silent
  where
    by : (b : Bool) → cond (b && is_message o.head.kind) None o.buf ≡ o.buf
    by true = ap (λ m. cond m None o.buf) other
    by false = refl

-- the success tells of an operation its head, its context and its buffer
success_same : (o : Operation) (bytes : List ℕ) → success_of (record { call = 0; dest = 0; place = 0; head = o.head; level = Level.Transmit; ctx = o.ctx; buf = o.buf; silent = false }) bytes ≡ success_of o bytes
unfolding success_of
success_same o bytes = refl

-- an outcome that is no success comes to no message
abbrev pub Ends : Outcome → Operation → Type 0
Ends outcome o = (kind : ErrKind) → refusal_of outcome ≡ Some kind → is_message o.head.kind ≡ false

module _ (outcome : Outcome) (bytes : List ℕ) (o : Operation) (ends : Ends outcome o) (p : Parts) where
  bad : (kind : ErrKind) → refusal_of outcome ≡ Some kind → end_with outcome bytes o (state_of p) ≡ state_of (ending_by outcome bytes (Some o) p)
  unfolding end_with
  bad kind is = rw (is, end_with, entry_at_end, seen_other o (ends kind is)) refl

  silent : (b : Bool) → o.silent ≡ b → refusal_of outcome ≡ None → end_with outcome bytes o (state_of p) ≡ state_of (ending_by outcome bytes (Some o) p)
  unfolding end_with
  silent true is well = rw (well, is, end_with, entry_at_end) refl
  silent false is well = rw (well, is, end_with, entry_at_end, success_same o bytes) refl

  pub end_is : end_with outcome bytes o (state_of p) ≡ state_of (ending_by outcome bytes (Some o) p)
  end_is = by (refusal_of outcome) refl
    where
      by : (k : Option ErrKind) → refusal_of outcome ≡ k → end_with outcome bytes o (state_of p) ≡ state_of (ending_by outcome bytes (Some o) p)
      by None is = silent o.silent refl is
      by (Some kind) is = bad kind is

module _ {X : Type 0} (test : X → Bool) where
  passes_step : (y : X) (ys : List X) (x : X) (b : Bool) → test y ≡ b → cond b (Some y) (find test ys) ≡ Some x → (find test ys ≡ Some x → test x ≡ true) → test x ≡ true
  passes_step y ys x true is e more = (let same : y ≡ x = cc in sym (ap test same) ∙ is)
  passes_step y ys x false is e more = more e

  -- the one that is found passes the test
  pub passes : (xs : List X) (x : X) → find test xs ≡ Some x → test x ≡ true
  passes [] x e = absurd (cc)
  passes (y ∷ ys) x e = passes_step y ys x (test y) refl e (passes ys x)

-- ---- transmission

pub sent_is : (p : Parts) (dest : ℕ) → do_sent (state_of p) dest ≡ state_of (sent dest p)
unfolding do_sent
sent_is p dest = by (ending dest p.tx.tx) refl
  where
    by : (o : Option Operation) → ending dest p.tx.tx ≡ o → do_sent (state_of p) dest ≡ state_of (sent dest p)
    by None e = rw (transmitted_none dest p.tx.tx e, e, do_sent) refl
    by (Some o) e = rw (transmitted_some dest p.tx.tx o e, e, do_sent)
        (end_is Done [] o (λ kind is. absurd (cc)) (with_transit (record p.tx { tx = going_on dest (transmitting dest p.tx.tx); places = slice_set p.tx.places dest 0 }) p))

-- ---- a reply

expected : (tx : Transmitting) (source : ℕ) (reply : ItemHead) (o : Operation) → is_answered_by tx source reply o ≡ true → Ends reply.outcome o
unfolding expects
expected tx source reply o is = by reply.outcome (and_right_true ((o.dest == source) && (o.head.op == reply.op) && awaits tx o) (expects o reply.outcome reply.total) is)
  where
    by : (out : Outcome) → expects o out reply.total ≡ true → Ends out o
    by Done e = λ kind is. absurd (cc)
    by BadKey e = λ kind is. not_true (is_message o.head.kind) (and_left_true (not (is_message o.head.kind)) (reply.total == 0) e)
    by BadAccess e = λ kind is. not_true (is_message o.head.kind) (and_left_true (not (is_message o.head.kind)) (reply.total == 0) e)
    by BadRange e = λ kind is. not_true (is_message o.head.kind) (and_left_true (not (is_message o.head.kind)) (reply.total == 0) e)

pub answered_is : (p : Parts) (source : ℕ) (item : Item) → do_answer (state_of p) source item.head item.bytes ≡ state_of (answered source item p)
unfolding do_answer answering
answered_is p source item = by (finds_answered source item.head p.tx.tx) refl
  where
    by : (o : Option Operation) → finds_answered source item.head p.tx.tx ≡ o → do_answer (state_of p) source item.head item.bytes ≡ state_of (answered source item p)
    by None e = rw (answered_none p.tx.tx source item.head e, e, do_answer) refl
    by (Some o) e = rw (answered_some p.tx.tx source item.head o e, e, do_answer)
        (end_is item.head.outcome item.bytes o (expected p.tx.tx source item.head o (passes (is_answered_by p.tx.tx source item.head) p.tx.tx.live o e)) (with_transit (with_transmitting (going_on source (answering source item.head p.tx.tx)) p.tx) p))

-- ---- arrivals

pub heading_is : (p : Parts) (source : ℕ) (head : ItemHead) → do_head (state_of p) source head ≡ state_of (heading source head p)
unfolding do_head
heading_is p source head = by (is_message head.kind) refl
  where
    by : (b : Bool) → is_message head.kind ≡ b → do_head (state_of p) source head ≡ state_of (heading source head p)
    by true e = rw (e, do_head) refl
    by false e = rw (e, do_head) refl

-- ---- a receive completes

not_released : (r : Receive) → r.least ≡ None → (s : State) → release r s ≡ s
not_released r single s = rw (single, release) refl

pub is_released : (r : Receive) (least : ℕ) → r.least ≡ Some least → (s : State) → release r s ≡ release_multi r.call s
is_released r least multi s = rw (multi, release) refl

-- a multi-receive that is closing and has no item under way is let go
module _ (r : Receive) (p : Parts) where
  found_first : (found : Receive) → find (is_made_by r.call) p.rx.rx.closing ≡ Some found → release_multi r.call (state_of p) ≡ elim (under_way p.rx.rx r.call) [ true ↦ state_of p | false ↦ let_go found (state_of p) ]
  unfolding release_multi
  found_first found some = rw (some, release_multi) refl

  idle_second : (found : Receive) → under_way p.rx.rx r.call ≡ false → elim (under_way p.rx.rx r.call) [ true ↦ state_of p | false ↦ let_go found (state_of p) ] ≡ let_go found (state_of p)
  idle_second found idle = rw idle refl

  busy_second : (found : Receive) → under_way p.rx.rx r.call ≡ true → elim (under_way p.rx.rx r.call) [ true ↦ state_of p | false ↦ let_go found (state_of p) ] ≡ state_of p
  busy_second found busy = rw busy refl

  closed_found : (found : Receive) → under_way p.rx.rx r.call ≡ false → find (is_made_by r.call) p.rx.rx.closing ≡ Some found → closed_by r.call p.rx.rx ≡ Some found
  closed_found found idle some = rw (idle, closed_by) some

  rest_found : under_way p.rx.rx r.call ≡ false → without_closed r.call p.rx.rx ≡ (let rx = p.rx.rx in record rx { closing = remove_first (is_made_by r.call) rx.closing })
  rest_found idle = rw (idle, without_closed) refl

  let_go_by : (b : Bool) → under_way p.rx.rx r.call ≡ b → (o : Option Receive) → find (is_made_by r.call) p.rx.rx.closing ≡ o
      → release_multi r.call (state_of p) ≡ state_of (let_back (closed_by r.call p.rx.rx) (with_arriving (with_receiving (without_closed r.call p.rx.rx) p.rx) p))
  unfolding release_multi
  let_go_by true busy None none = rw (busy, none, release_multi, closed_by, without_closed) refl
  let_go_by true busy (Some found) some = found_first found some ∙ busy_second found busy ∙ rw (busy, closed_by, without_closed) refl
  let_go_by false idle None none = rw (idle, none, release_multi, closed_by, without_closed, without_none (is_made_by r.call) p.rx.rx.closing none) refl
  let_go_by false idle (Some found) some =
      let same : found.call ≡ r.call = eqb-true found.call r.call (passes (is_made_by r.call) p.rx.rx.closing found some) in
      found_first found some ∙ idle_second found idle ∙ rw (closed_found found idle some, rest_found idle, same) refl

  pub let_go_is : release_multi r.call (state_of p) ≡ state_of (let_back (closed_by r.call p.rx.rx) (with_arriving (with_receiving (without_closed r.call p.rx.rx) p.rx) p))
  let_go_is = let_go_by (under_way p.rx.rx r.call) refl (find (is_made_by r.call) p.rx.rx.closing) refl

module _ (r : Receive) (place source : ℕ) (head : ItemHead) (bytes : List ℕ) (due : Bool) where
  unchanged : r.least ≡ None → (xs : List Receive) → fill_multi r place bytes xs ≡ xs
  unchanged single xs = rw (single, fill_multi) refl

  filled_is : (p : Parts) → book due source head (fill r place source head bytes (state_of p)) ≡ state_of (received (Some r.call) due (completed r place source head bytes) (with_arriving (with_receiving (filling r place bytes p.rx.rx) p.rx) p))
  unfolding fill
  filled_is p = book_is due source head (received (Some r.call) false (completed r place source head bytes) (with_arriving (with_receiving (filling r place bytes p.rx.rx) p.rx) p))

  -- the receive gets the message, and is over where it was the last one
  pub completed_is : (o : Option ℕ) → r.least ≡ o → (p : Parts) → release r (book due source head (fill r place source head bytes (state_of p)))
      ≡ state_of (let_back (closed_if o r.call (filling r place bytes p.rx.rx)) (received (Some r.call) due (completed r place source head bytes) (with_arriving (with_receiving (shared o r place bytes p.rx.rx) p.rx) p)))
  unfolding fill
  completed_is None single p = not_released r single _ ∙ rw (fill, unchanged single p.rx.rx.posted, unchanged single p.rx.rx.closing) (book_is due source head (received (Some r.call) false (completed r place source head bytes) p))
  completed_is (Some least) multi p =
      let q = received (Some r.call) due (completed r place source head bytes) (with_arriving (with_receiving (filling r place bytes p.rx.rx) p.rx) p) in
      ap (release r) (filled_is p) ∙ is_released r least multi (state_of q) ∙ let_go_is r q

-- ---- an item is whole

module _ (p : Parts) (source : ℕ) (item : Item) (begun : begun_of p.rx source ≡ Some item) (fitting : IsFitting (coming_from p.rx.rx source) (Some item)) where
  -- the item is no longer under way
  abbrev gone : Parts
  gone = with_arriving (record p.rx { rx = made_whole source p.rx.rx; begun = slice_set p.rx.begun source None }) p

  tail_by : (c : Option Coming) → coming_from p.rx.rx source ≡ c → IsFitting c (Some item) → do_tail (state_of p) source item.head item.bytes ≡ state_of (tail source item p)
  unfolding do_tail tail_to
  tail_by None e f = absurd f
  tail_by (Some (Into r place)) e f = rw (e, begun, do_tail, tail_to) (completed_is r place source item.head item.bytes (at_either item.head.ack) r.least refl gone)
  tail_by (Some Keep) e f = rw (e, begun, do_tail, tail_to) (book_is (at_delivery item.head.ack) source item.head (with_arriving (record p.rx { rx = keeping source item.bytes (made_whole source p.rx.rx); begun = slice_set p.rx.begun source None }) p))
  tail_by (Some Throw) e f = rw (e, do_tail, tail_to) (book_is (at_either item.head.ack) source item.head gone)
  tail_by (Some Request) e f = rw (e, do_tail, tail_to) (requested_is gone source item)
  tail_by (Some Answer) e f = rw (e, do_tail, tail_to) (answered_is gone source item)

  pub tail_is : do_tail (state_of p) source item.head item.bytes ≡ state_of (tail source item p)
  tail_is = tail_by (coming_from p.rx.rx source) refl fitting

-- ---- calls

-- a receive for one message gets it
module _ (r : Receive) (single : r.least ≡ None) (source : ℕ) (head : ItemHead) (bytes : List ℕ) (due : Bool) where
  unchanged_first : (xs : List Receive) → fill_multi r 0 bytes xs ≡ xs
  unchanged_first xs = rw (single, fill_multi) refl

  pub received_is : (p : Parts) → book due source head (fill r 0 source head bytes (state_of p)) ≡ state_of (received (Some r.call) due (completed r 0 source head bytes) p)
  unfolding fill
  received_is p = rw (fill, unchanged_first p.rx.rx.posted, unchanged_first p.rx.rx.closing) (book_is due source head (received (Some r.call) false (completed r 0 source head bytes) p))

module _ (p : Parts) (ask : Ask) (buf : List ℕ) where
  abbrev r : Receive
  r = receive_now (wanted (state_of p) ask) buf ask.ctx p

  posted_found : (o : Option Arrival) → find (takes (wanted (state_of p) ask)) p.rx.rx.unexpected ≡ o → post (state_of p) (posting_of ask buf) ≡ state_of (posted_by (wanted (state_of p) ask) buf ask.ctx p)
  unfolding post give
  posted_found None e = rw (e, post) refl
  posted_found (Some a) e = by a.bytes refl
    where
      by : (b : Option (List ℕ)) → a.bytes ≡ b → post (state_of p) (posting_of ask buf) ≡ state_of (posted_by (wanted (state_of p) ask) buf ask.ctx p)
      by None none = rw (e, none, post, give) refl
      by (Some bytes) some = rw (e, some, post, give) (received_is r refl a.source a.head bytes (at_match a.head.ack) (called (with_arriving (record { rx = without_first r.want p.rx.rx; begun = p.rx.begun; most = p.rx.most; next = r.call + 1; multis = p.rx.multis }) p)))

  pub posted_is : post (state_of p) (posting_of ask buf) ≡ state_of (posted_by (wanted (state_of p) ask) buf ask.ctx p)
  posted_is = posted_found (find (takes (wanted (state_of p) ask)) p.rx.rx.unexpected) refl

pub left_is : (p : Parts) (ctx : Option ℕ) → cancel (state_of p) (is_meant ctx) ≡ state_of (left_by ctx p)
unfolding cancel
left_is p ctx = by (cancellable (is_meant ctx) p.rx.rx) refl
  where
    by : (o : Option Receive) → cancellable (is_meant ctx) p.rx.rx ≡ o → cancel (state_of p) (is_meant ctx) ≡ state_of (left_by ctx p)
    by None e = rw (e, cancel, without_none _ p.rx.rx.posted e) refl
    by (Some r) e = rw (e, cancel) refl

pub accepted_is : (p : Parts) (t : ℕ) (message : Message) (bytes : List ℕ) → transmit_to t (state_of p) (order_of message bytes) ≡ state_of (accepted_by t (order_of message bytes) p)
unfolding transmit_to
accepted_is p t message bytes = rw (transmit_to, append-nil bytes) refl
