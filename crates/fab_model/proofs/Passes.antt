-- What calls and arrivals leave of what was accepted, sent and received, and of the size of the completion queue: they only append to what was accepted.
use Rattle.std.proofs.Common.{◌≡◌, ℕ, zero, suc, List, [], ◌∷◌, ◌++◌, length, Bool, true, false, ◌==◌, Option, Some, None, refl, sym, ◌∙◌, ap, rules, set, get_or, length-set}
use Rattle.std.specs.Prelude.{find}
use Rattle.fab_base.specs.declared.items.Item.{Item}
use Rattle.fab_base.specs.declared.items.ItemHead.{ItemHead}
use Rattle.fab_base.specs.declared.items.Outcome.{Outcome}
use Rattle.fab_base.specs.declared.items.Outcome.TheVariants.{Done}
use Rattle.fab_base.specs.declared.items.Want.{Want}
use Rattle.fab_base.specs.declared.faults.Fault.{Fault}
use Rattle.fab_base.specs.declared.entries.PeekHow.{PeekHow}
use Rattle.fab_base.specs.declared.entries.PeekHow.TheVariants.{Peek, Claim, Discard}
use Rattle.fab_base.specs.declared.operations.Receive.{Receive}
use Rattle.fab_base.specs.declared.operations.Arrival.{Arrival}
use Rattle.fab_base.specs.declared.operations.Operation.{Operation}
use Rattle.fab_base.specs.declared.operations.Coming.{Coming}
use Rattle.fab_base.specs.declared.operations.Coming.TheVariants.{Into, Keep, Throw, Request, Answer}
use Rattle.fab_model.specs.Matching.{takes}
use Rattle.fab_model.specs.State.{State, Transmitting, accepted_for, coming_from, lookup, with_rx, with_tx, called}
use Rattle.fab_model.specs.Complete.{fill, release, release_multi, reply, book}
use Rattle.fab_base.specs.Kinds.{at_delivery, at_match}
use Rattle.fab_base.specs.Replies.{at_either}
use Rattle.fab_model.specs.Sending.{Order, letting_out, going_on, accepting, transmit, transmit_to, end_with, transmitting, ending, do_sent, do_answer, answering, is_answered_by}
use Rattle.fab_model.specs.Receiving.{Posting, give, drop_arrival, post, receive_of, taken_by, without_first, look, look_at, want_of, take_claimed, drop_claimed, claim_of, without_claim, taking, cancel, cancellable, draws}
use Rattle.fab_model.specs.Target.{perform}
use Rattle.fab_model.specs.Arrivals.{heading_message, heading_other, do_head, do_draw, seating, keeping, remote_data, remote_event, with_regions, do_request, tail_to, made_whole, do_tail}
use Rattle.fab_model.specs.Calls.{Call, Transmit, Post, Look, TakeClaimed, DropClaimed, Cancel, CancelFirst, Insert, Remove, Reg, Close, Put, Show, Count, answer, insert, remove, reg, close, put, do_call}
use Rattle.fab_model.specs.Views.{IsPrefixOf}
use Rattle.fab_model.proofs.Views.{prefix_self, prefix_prefix}

-- from s to u: what was accepted only grows at its ends, as much is sent and whole as before, and as many completions may be unread
pub record Passes (s u : State) : Type 0 where
  pub ready : (q : ℕ) → IsPrefixOf (accepted_for s.tx q) (accepted_for u.tx q)
  pub count : length u.tx.accepted ≡ length s.tx.accepted
  pub sent : u.tx.sent ≡ s.tx.sent
  pub tails : u.rx.tails ≡ s.rx.tails
  pub size : u.cq.size ≡ s.cq.size

pub same : {s u : State} → u.tx ≡ s.tx → u.rx.tails ≡ s.rx.tails → u.cq.size ≡ s.cq.size → Passes s u
same {s} {u} tx tails size = record {
  ready = λ q. prefix_self _ _ (ap (λ (t : Transmitting). accepted_for t q) (sym tx));
  count = ap (λ (t : Transmitting). length t.accepted) tx;
  sent = ap (λ (t : Transmitting). t.sent) tx;
  tails = tails;
  size = size;
}

pub then : {s u v : State} → Passes s u → Passes u v → Passes s v
then g h = record { ready = λ q. prefix_prefix _ _ _ (g.ready q) (h.ready q); count = h.count ∙ g.count; sent = h.sent ∙ g.sent; tails = h.tails ∙ g.tails; size = h.size ∙ g.size }

-- where an option decides
passes_option : {X : Type 0} (s : State) (o : Option X) (none : State) (some : X → State) → Passes s none → ((x : X) → Passes s (some x)) → Passes s (elim o [ None ↦ none | Some x ↦ some x ])
passes_option s None none some n f = n
passes_option s (Some x) none some n f = f x

-- ---- replies

appended : (xs : List (List Item)) (t q : ℕ) (more : List Item) → IsPrefixOf (get_or xs q []) (get_or (set xs t (get_or xs t [] ++ more)) q [])
appended [] t q more = ([], refl)
appended (x ∷ xs) zero zero more = (more, refl)
appended (x ∷ xs) zero (suc q) more = prefix_self _ _ refl
appended (x ∷ xs) (suc t) zero more = prefix_self _ _ refl
appended (x ∷ xs) (suc t) (suc q) more = appended xs t q more

reply_passes : (source op : ℕ) (outcome : Outcome) (bytes : List ℕ) (s : State) → Passes s (reply source op outcome bytes s)
unfolding reply
reply_passes source op outcome bytes s = record { ready = λ q. appended s.tx.accepted source q _; count = length-set s.tx.accepted source _; sent = refl; tails = refl; size = refl }

book_passes : (b : Bool) (source : ℕ) (head : ItemHead) (s : State) → Passes s (book b source head s)
unfolding book
book_passes true source head s = reply_passes source _ _ _ s
book_passes false source head s = same refl refl refl

-- ---- what an arrival does

fill_passes : (r : Receive) (place source : ℕ) (head : ItemHead) (bytes : List ℕ) (s : State) → Passes s (fill r place source head bytes s)
unfolding fill
fill_passes r place source head bytes s = same refl refl refl

release_passes : (r : Receive) (s : State) → Passes s (release r s)
unfolding release_multi
release_passes r s = same (grind rules) (grind rules) (grind rules)

give_passes : (r : Receive) (place : ℕ) (a : Arrival) (s : State) → Passes s (give r place a s)
unfolding give
give_passes r place a s = passes_option s a.bytes _ _ (same refl refl refl) (λ bytes. then (fill_passes r place a.source a.head bytes s) (book_passes (at_match a.head.ack) a.source a.head _))

drop_passes : (a : Arrival) (s : State) → Passes s (drop_arrival a s)
unfolding drop_arrival
drop_passes a s = passes_option s a.bytes _ _ (same refl refl refl) (λ bytes. book_passes (at_match a.head.ack) a.source a.head s)

-- ---- the end of an operation

-- what goes out joins what was accepted
going_passes : (t : ℕ) (s : State) → Passes s (with_tx (going_on t s.tx) s)
unfolding letting_out
going_passes t s = record { ready = λ q. appended s.tx.accepted t q _; count = length-set s.tx.accepted t _; sent = refl; tails = refl; size = refl }

pub end_passes : (outcome : Outcome) (bytes : List ℕ) (o : Operation) (s : State) → Passes s (end_with outcome bytes o s)
unfolding end_with
end_passes outcome bytes o s = same (grind rules) (grind rules) (grind rules)

answer_passes : (s : State) (source : ℕ) (head : ItemHead) (bytes : List ℕ) → Passes s (do_answer s source head bytes)
unfolding do_answer answering
answer_passes s source head bytes = passes_option s (find (is_answered_by s.tx source head) s.tx.live) _ _ (same refl refl refl) (λ o.
    let ended : Passes s (with_tx (answering source head s.tx) s) = record { ready = λ q. prefix_self _ _ refl; count = refl; sent = refl; tails = refl; size = refl } in
    then (then ended (going_passes source _)) (end_passes head.outcome bytes o _))

-- ---- calls

fault_passes : (fault : Option Fault) (s after : State) → Passes s after → Passes s (answer fault s after).1
fault_passes None s after passes = passes
fault_passes (Some fault) s after passes = same refl refl refl

pub transmit_passes : (s : State) (o : Order) → Passes s (transmit s o)
unfolding transmit transmit_to accepting letting_out
transmit_passes s o = passes_option s (lookup s.av o.dest) _ _ (same refl refl refl)
    (λ t. record { ready = λ q. appended s.tx.accepted t q _; count = length-set s.tx.accepted t _; sent = refl; tails = refl; size = refl })

post_passes : (s : State) (p : Posting) → Passes s (post s p)
unfolding post
post_passes s p =
    let r = receive_of s p in
    passes_option s (taken_by r s) _ _ (same refl refl refl) (λ a. then (same refl refl refl) (give_passes r 0 a (called (with_rx (without_first r.want s.rx) s))))

look_at_passes : (how : PeekHow) (want : Want) (ctx : ℕ) (a : Arrival) (s : State) → Passes s (look_at how want ctx a s)
look_at_passes Peek want ctx a s = same refl refl refl
look_at_passes Claim want ctx a s = same refl refl refl
look_at_passes Discard want ctx a s = then (same refl refl refl) (drop_passes a (with_rx (without_first want s.rx) s))

look_passes : (how : PeekHow) (want : Want) (ctx : ℕ) (s : State) → Passes s (look how want ctx s)
unfolding look
look_passes how want ctx s = passes_option s (find (takes want) s.rx.unexpected) _ _ (same refl refl refl) (λ a. then (same refl refl refl) (look_at_passes how want ctx a _))

take_passes : (s : State) (buf : List ℕ) (ctx : ℕ) → Passes s (take_claimed s buf ctx)
unfolding take_claimed
take_passes s buf ctx = passes_option s (claim_of ctx s) _ _ (same refl refl refl) (λ a. then (same refl refl refl) (give_passes (taking s buf ctx) 0 a (called (with_rx (without_claim ctx s.rx) s))))

drop_claimed_passes : (s : State) (ctx : ℕ) → Passes s (drop_claimed s ctx)
unfolding drop_claimed
drop_claimed_passes s ctx = passes_option s (claim_of ctx s) _ _ (same refl refl refl) (λ a. then (same refl refl refl) (drop_passes a _))

pub cancel_passes : (s : State) (test : Receive → Bool) → Passes s (cancel s test)
unfolding cancel
cancel_passes s test = passes_option s (cancellable test s.rx) _ _ (same refl refl refl) (λ r. same refl refl refl)

pub call_passes : (s : State) (c : Call) → Passes s (do_call s c).1
unfolding do_call insert remove reg close put
call_passes s (Transmit o) = fault_passes _ s _ (transmit_passes s o)
call_passes s (Post p) = fault_passes _ s _ (post_passes s p)
call_passes s (Look how source tag ignore ctx) = fault_passes _ s _ (look_passes how (want_of s true source tag ignore) ctx s)
call_passes s (TakeClaimed buf ctx) = fault_passes _ s _ (take_passes s buf ctx)
call_passes s (DropClaimed ctx) = fault_passes _ s _ (drop_claimed_passes s ctx)
call_passes s (Cancel ctx) = fault_passes _ s _ (cancel_passes s (λ r. r.ctx == ctx))
call_passes s CancelFirst = fault_passes _ s _ (cancel_passes s (λ r. true))
call_passes s (Insert name) = same (grind rules) (grind rules) (grind rules)
call_passes s (Remove index) = same (grind rules) (grind rules) (grind rules)
call_passes s (Reg key access bytes) = same (grind rules) (grind rules) (grind rules)
call_passes s (Close key) = same (grind rules) (grind rules) (grind rules)
call_passes s (Put key at bytes) = same (grind rules) (grind rules) (grind rules)
call_passes s (Show key) = same refl refl refl
call_passes s (Count class) = same refl refl refl

-- ---- items

pub head_passes : (s : State) (source : ℕ) (head : ItemHead) → Passes s (do_head s source head)
unfolding do_head heading_message heading_other
head_passes s source head = same (grind rules) (grind rules) (grind rules)

pub draw_passes : (s : State) → Passes s (do_draw s)
unfolding do_draw
draw_passes s = passes_option s (find (draws s.rx.unexpected) s.rx.posted) _ _ (same refl refl refl) (λ r.
    passes_option s (find (takes r.want) s.rx.unexpected) _ _ (same refl refl refl) (λ a.
    then (then (same refl refl refl) (give_passes r r.used a (with_rx (without_first r.want (seating a.head.total r s.rx.unexpected s.rx)) s))) (release_passes r _)))

data_passes : (outcome : Outcome) (source : ℕ) (head : ItemHead) (s : State) → Passes s (remote_data outcome source head s)
data_passes outcome source head s = same (grind rules) (grind rules) (grind rules)

event_passes : (outcome : Outcome) (head : ItemHead) (s : State) → Passes s (remote_event outcome head s)
event_passes outcome head s = same (grind rules) (grind rules) (grind rules)

request_passes : (s : State) (source : ℕ) (head : ItemHead) (bytes : List ℕ) → Passes s (do_request s source head bytes)
unfolding do_request
request_passes s source head bytes =
    let p = perform s.regions head bytes in
    let replied = then (same refl refl refl) (reply_passes source head.op p.outcome p.bytes (with_regions p.regions s)) in
    then (then replied (event_passes p.outcome head _)) (data_passes p.outcome source head _)

pub to_passes : (c : Option Coming) (s : State) (source : ℕ) (head : ItemHead) (bytes : List ℕ) → Passes s (tail_to c s source head bytes)
unfolding tail_to keeping
to_passes None s source head bytes = same refl refl refl
to_passes (Some (Into r place)) s source head bytes = then (then (fill_passes r place source head bytes s) (book_passes (at_either head.ack) source head _)) (release_passes r _)
to_passes (Some Keep) s source head bytes = then (same refl refl refl) (book_passes (at_delivery head.ack) source head (with_rx (keeping source bytes s.rx) s))
to_passes (Some Throw) s source head bytes = book_passes (at_either head.ack) source head s
to_passes (Some Request) s source head bytes = request_passes s source head bytes
to_passes (Some Answer) s source head bytes = answer_passes s source head bytes

-- an item that is whole is one more of its source; the rest passes
pub tail_passes : (s : State) (source : ℕ) (head : ItemHead) (bytes : List ℕ) → Passes (with_rx (made_whole source s.rx) s) (do_tail s source head bytes)
unfolding do_tail
tail_passes s source head bytes = to_passes (coming_from s.rx source) _ source head bytes

-- an item that is transmitted is one more for its peer; the rest passes
pub sent_passes : (s : State) (t : ℕ) → Passes (with_tx (transmitting t s.tx) s) (do_sent s t)
unfolding do_sent
sent_passes s t = passes_option _ (ending t s.tx) _ _ (same refl refl refl) (λ o. then (going_passes t (with_tx (transmitting t s.tx) s)) (end_passes Done [] o _))
