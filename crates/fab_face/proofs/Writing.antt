-- What a machine writes into its completion queue.
use Rattle.std.proofs.Common.{◌≡◌, ◌≤◌, ◌+◌, ℕ, Bool, true, false, List, [], ◌∷◌, ◌++◌, length, length-append, append-nil, append_assoc, Option, Some, None, refl, sym, ap, ◌∙◌, arith, rules}
use Rattle.std.specs.Prelude.{find, ◌==◌}
use Rattle.fab_base.specs.declared.entries.Taken.{Taken}
use Rattle.fab_base.specs.declared.entries.Taken.TheVariants.{Success}
use Rattle.fab_base.specs.declared.entries.Entry.TheVariants.{RemoteData}
use Rattle.fab_base.specs.declared.items.Kind.{Kind}
use Rattle.fab_base.specs.declared.items.Kind.TheVariants.{WriteReq}
use Rattle.fab_base.specs.declared.items.ItemHead.{ItemHead}
use Rattle.fab_base.specs.declared.items.Outcome.{Outcome}
use Rattle.fab_base.specs.declared.items.Outcome.TheVariants.{Done as Good}
use Rattle.fab_base.specs.declared.operations.Receive.{Receive}
use Rattle.fab_base.specs.declared.operations.Arrival.{Arrival}
use Rattle.fab_base.specs.declared.operations.Operation.{Operation}
use Rattle.fab_base.specs.declared.operations.Coming.{Coming}
use Rattle.fab_base.specs.declared.operations.Coming.TheVariants.{Into, Keep, Throw, Request, Answer}
use Rattle.fab_base.specs.declared.entries.PeekHow.{PeekHow}
use Rattle.fab_base.specs.declared.entries.PeekHow.TheVariants.{Peek, Claim, Discard}
use Rattle.fab_base.specs.declared.entries.Class.TheVariants.{Recv}
use Rattle.fab_base.specs.declared.faults.Fault.{Fault}
use Rattle.fab_base.specs.declared.items.Want.{Want}
use Rattle.fab_model.specs.Calls.{Call, Transmit, Post, Look, TakeClaimed, DropClaimed, Cancel, CancelFirst, Insert, Remove, Reg, Close, Put, Show, Count, do_call, answer, insert, remove, reg, close, put}
use Rattle.fab_model.specs.State.{State, Completions, called, coming_from, lookup, with_rx, with_tx, write, count, under_way}
use Rattle.fab_model.specs.Complete.{fill, release, release_multi, let_go, is_made_by, reply, book}
use Rattle.fab_base.specs.Kinds.{at_delivery, at_match, refusal_of}
use Rattle.fab_base.specs.Replies.{at_either}
use Rattle.fab_model.specs.Sending.{Order, do_sent, do_answer, end_with, ending, transmitting, going_on, answering, is_answered_by, class_of, transmit, transmit_to}
use Rattle.fab_model.specs.Receiving.{Posting, draws, give, without_first, receive_of, taken_by, post, drop_arrival, look, look_at, take_claimed, taking, claim_of, without_claim, drop_claimed, cancel, cancellable, without_posted, want_of}
use Rattle.fab_model.specs.Matching.{takes}
use Rattle.fab_base.specs.declared.operations.Written.{Written}
use Rattle.fab_model.specs.Target.{perform}
use Rattle.fab_model.specs.Arrivals.{do_head, do_draw, seating, keeping, remote_data, remote_event, with_regions, do_request, tail_to, made_whole, do_tail}
use Rattle.fab_model.proofs.Unchanged.{event_cq}
use Rattle.fab_face.specs.Acts.{headed}

-- ---- at most n entries are written, and none is read

pub record Adds (n : ℕ) (s u : State) : Type 0 where
  pub read : u.cq.taken_out ≡ s.cq.taken_out
  pub size : u.cq.size ≡ s.cq.size
  pub most : length u.cq.written ≤ length s.cq.written + n
  pub more : List Written
  pub grown : u.cq.written ≡ s.cq.written ++ more

pub adds_none : (n : ℕ) (s u : State) → u.cq ≡ s.cq → Adds n s u
adds_none n s u cq = record {
  read = ap (λ (c : Completions). c.taken_out) cq;
  size = ap (λ (c : Completions). c.size) cq;
  most = (let l : length u.cq.written ≡ length s.cq.written = ap (λ (c : Completions). length c.written) cq in omega (arith, l));
  more = [];
  grown = ap (λ (c : Completions). c.written) cq ∙ sym (append-nil s.cq.written);
}

pub adds_then : (m n : ℕ) (s u v : State) → Adds m s u → Adds n u v → Adds (m + n) s v
adds_then m n s u v a b = record {
  read = b.read ∙ a.read;
  size = b.size ∙ a.size;
  most = omega (arith, a.most, b.most);
  more = a.more ++ b.more;
  grown = b.grown ∙ ap (λ xs. xs ++ b.more) a.grown ∙ append_assoc s.cq.written a.more b.more;
}

pub adds_more : (m n : ℕ) (s u : State) → m ≤ n → Adds m s u → Adds n s u
adds_more m n s u le a = record { read = a.read; size = a.size; most = omega (arith, a.most, le); more = a.more; grown = a.grown }

adds_option : {X : Type 0} (n : ℕ) (s : State) (o : Option X) (none : State) (some : X → State) → Adds n s none → ((x : X) → Adds n s (some x)) → Adds n s (elim o [ None ↦ none | Some x ↦ some x ])
adds_option n s None none some a f = a
adds_option n s (Some x) none some a f = f x

adds_write : (call : Option ℕ) (entry : Taken) (s : State) → Adds 1 s (write call entry s)
adds_write call entry s = record {
  read = refl;
  size = refl;
  most = (let l = length-append s.cq.written (record { call = call; entry = entry } ∷ []) in omega (arith, l));
  more = record { call = call; entry = entry } ∷ [];
  grown = refl;
}

adds_fill : (r : Receive) (place source : ℕ) (head : ItemHead) (bytes : List ℕ) (s : State) → Adds 1 s (fill r place source head bytes s)
unfolding fill
adds_fill r place source head bytes s = adds_then 0 1 _ _ _ (adds_none 0 s _ refl) (adds_write _ _ _)

adds_book : (is : Bool) (source : ℕ) (head : ItemHead) (s : State) → Adds 0 s (book is source head s)
unfolding book reply
adds_book true source head s = adds_none 0 s _ refl
adds_book false source head s = adds_none 0 s _ refl

adds_release : (r : Receive) (s : State) → Adds 1 s (release r s)
unfolding release_multi
adds_release r s = adds_option 1 s r.least _ _ (adds_none 1 s _ refl) (λ l. adds_option 1 s (find (is_made_by r.call) s.rx.closing) _ _ (adds_none 1 s _ refl) (λ x. by_way (under_way s.rx r.call) x))
  where
    by_way : (b : Bool) (x : Receive) → Adds 1 s (elim b [ true ↦ s | false ↦ let_go x s ])
    by_way true x = adds_none 1 s _ refl
    by_way false x = adds_then 0 1 s (with_rx _ s) _ (adds_none 0 s _ refl) (adds_write _ _ (with_rx _ s))

adds_give : (r : Receive) (place : ℕ) (a : Arrival) (s : State) → Adds 1 s (give r place a s)
unfolding give
adds_give r place a s = adds_option 1 s a.bytes _ _ (adds_none 1 s _ refl) (λ bytes. adds_then 1 0 s _ _ (adds_fill r place a.source a.head bytes s) (adds_book (at_match a.head.ack) a.source a.head _))

pub adds_draw : (s : State) → Adds 2 s (do_draw s)
unfolding do_draw
adds_draw s = adds_option 2 s (find (draws s.rx.unexpected) s.rx.posted) _ _ (adds_none 2 s _ refl) (λ r.
    adds_option 2 s (find (takes r.want) s.rx.unexpected) _ _ (adds_none 2 s _ refl) (λ a.
    let before = with_rx (without_first r.want (seating a.head.total r s.rx.unexpected s.rx)) s in
    adds_then 1 1 s _ _ (adds_then 0 1 s before _ (adds_none 0 s before refl) (adds_give r r.used a before)) (adds_release r _)))

adds_bool : (n : ℕ) (s : State) (b : Bool) (t f : State) → Adds n s t → Adds n s f → Adds n s (elim b [ true ↦ t | false ↦ f ])
adds_bool n s true t f x y = x
adds_bool n s false t f x y = y

adds_end : (outcome : Outcome) (bytes : List ℕ) (o : Operation) (s : State) → Adds 1 s (end_with outcome bytes o s)
unfolding end_with
adds_end outcome bytes o s =
    adds_option 1 s (refusal_of outcome) _ _
    (adds_bool 1 s o.silent _ _ (adds_none 1 s _ refl) (adds_then 0 1 s (count (class_of o.head) true s) _ (adds_none 0 s _ refl) (adds_write _ _ _)))
    (λ kind. adds_then 0 1 s (count (class_of o.head) false s) _ (adds_none 0 s _ refl) (adds_write _ _ _))

adds_answer : (s : State) (source : ℕ) (head : ItemHead) (bytes : List ℕ) → Adds 1 s (do_answer s source head bytes)
unfolding do_answer
adds_answer s source head bytes = adds_option 1 s (find (is_answered_by s.tx source head) s.tx.live) _ _ (adds_none 1 s _ refl) (λ o.
    let before = with_tx (going_on source (answering source head s.tx)) s in
    adds_then 0 1 s before _ (adds_none 0 s before refl) (adds_end head.outcome bytes o before))

adds_data : (outcome : Outcome) (source : ℕ) (head : ItemHead) (s : State) → Adds 1 s (remote_data outcome source head s)
adds_data Good source head s = by_kind head.kind
  where
    by_kind : (k : Kind) → Adds 1 s (elim k [ WriteReq ↦ elim head.imm [ None ↦ s | Some imm ↦ write None (Success (RemoteData source imm)) s ] | _ ↦ s ])
    by_kind WriteReq = adds_option 1 s head.imm _ _ (adds_none 1 s _ refl) (λ imm. adds_write _ _ s)
    by_kind _ = adds_none 1 s _ refl
adds_data _ source head s = adds_none 1 s _ refl

adds_request : (s : State) (source : ℕ) (head : ItemHead) (bytes : List ℕ) → Adds 1 s (do_request s source head bytes)
unfolding do_request reply
adds_request s source head bytes =
    let p = perform s.regions head bytes in
    let replied = reply source head.op p.outcome p.bytes (with_regions p.regions s) in
    adds_then 0 1 s (remote_event p.outcome head replied) _ (adds_none 0 s _ (event_cq p.outcome head replied)) (adds_data p.outcome source head _)

adds_to : (c : Option Coming) (s : State) (source : ℕ) (head : ItemHead) (bytes : List ℕ) → Adds 2 s (tail_to c s source head bytes)
unfolding tail_to keeping
adds_to None s source head bytes = adds_none 2 s _ refl
adds_to (Some (Into r place)) s source head bytes =
    adds_then 1 1 s _ _ (adds_then 1 0 s _ _ (adds_fill r place source head bytes s) (adds_book (at_either head.ack) source head _)) (adds_release r _)
adds_to (Some Keep) s source head bytes = adds_more 0 2 s _ (omega arith) (adds_then 0 0 s (with_rx (keeping source bytes s.rx) s) _ (adds_none 0 s _ refl) (adds_book (at_delivery head.ack) source head _))
adds_to (Some Throw) s source head bytes = adds_more 0 2 s _ (omega arith) (adds_book (at_either head.ack) source head s)
adds_to (Some Request) s source head bytes = adds_more 1 2 s _ (omega arith) (adds_request s source head bytes)
adds_to (Some Answer) s source head bytes = adds_more 1 2 s _ (omega arith) (adds_answer s source head bytes)

pub adds_tail : (s : State) (source : ℕ) (head : ItemHead) (bytes : List ℕ) → Adds 2 s (do_tail s source head bytes)
unfolding do_tail
adds_tail s source head bytes = adds_then 0 2 s (with_rx (made_whole source s.rx) s) _ (adds_none 0 s _ refl) (adds_to (coming_from s.rx source) _ source head bytes)

pub adds_sent : (s : State) (t : ℕ) → Adds 1 s (do_sent s t)
unfolding do_sent
adds_sent s t = adds_option 1 s (ending t s.tx) _ _ (adds_none 1 s _ refl) (λ o.
    let before = with_tx (going_on t (transmitting t s.tx)) s in adds_then 0 1 s before _ (adds_none 0 s before refl) (adds_end Good [] o before))

head_cq : (s : State) (source : ℕ) (head : ItemHead) → (do_head s source head).cq ≡ s.cq
unfolding do_head
head_cq s source head = grind rules

pub adds_headed : (first : Bool) (s : State) (source : ℕ) (head : ItemHead) → Adds 0 s (headed first s source head)
adds_headed true s source head = adds_none 0 s _ (head_cq s source head)
adds_headed false s source head = adds_none 0 s _ refl

-- ---- calls

adds_answer_of : (n : ℕ) (fault : Option Fault) (s after : State) → Adds n s after → Adds n s (answer fault s after).1
adds_answer_of n None s after adds = adds
adds_answer_of n (Some fault) s after adds = adds_none n s s refl

adds_transmit : (s : State) (o : Order) → Adds 1 s (transmit s o)
unfolding transmit transmit_to
adds_transmit s o = adds_option 1 s (lookup s.av o.dest) _ _ (adds_none 1 s _ refl) (λ t. adds_none 1 s _ refl)

adds_post : (s : State) (p : Posting) → Adds 1 s (post s p)
unfolding post
adds_post s p =
    let r = receive_of s p in
    adds_option 1 s (taken_by r s) _ _ (adds_none 1 s _ refl) (λ a.
    let before = called (with_rx (without_first r.want s.rx) s) in adds_then 0 1 s before _ (adds_none 0 s before refl) (adds_give r 0 a before))

adds_drop : (a : Arrival) (s : State) → Adds 0 s (drop_arrival a s)
unfolding drop_arrival
adds_drop a s = adds_option 0 s a.bytes _ _ (adds_none 0 s _ refl) (λ bytes. adds_book (at_match a.head.ack) a.source a.head s)

adds_look_at : (how : PeekHow) (want : Want) (ctx : ℕ) (a : Arrival) (s : State) → Adds 0 s (look_at how want ctx a s)
adds_look_at Peek want ctx a s = adds_none 0 s _ refl
adds_look_at Claim want ctx a s = adds_none 0 s _ refl
adds_look_at Discard want ctx a s = let before = with_rx (without_first want s.rx) s in adds_then 0 0 s before _ (adds_none 0 s before refl) (adds_drop a before)

-- a call of the peer's, and its entry
adds_called : (call : Option ℕ) (entry : Taken) (s m : State) → m.cq ≡ s.cq → Adds 1 s (write call entry m)
adds_called call entry s m same = adds_then 0 1 s m _ (adds_none 0 s m same) (adds_write call entry m)

adds_look : (how : PeekHow) (want : Want) (ctx : ℕ) (s : State) → Adds 1 s (look how want ctx s)
unfolding look
adds_look how want ctx s = adds_option 1 s (find (takes want) s.rx.unexpected) _ _ (adds_called _ _ s (called s) refl) (λ a. adds_then 1 0 s _ _ (adds_called _ _ s (called s) refl) (adds_look_at how want ctx a _))

adds_take : (s : State) (buf : List ℕ) (ctx : ℕ) → Adds 1 s (take_claimed s buf ctx)
unfolding take_claimed
adds_take s buf ctx = adds_option 1 s (claim_of ctx s) _ _ (adds_none 1 s _ refl) (λ a.
    let before = called (with_rx (without_claim ctx s.rx) s) in adds_then 0 1 s before _ (adds_none 0 s before refl) (adds_give (taking s buf ctx) 0 a before))

adds_drop_claimed : (s : State) (ctx : ℕ) → Adds 1 s (drop_claimed s ctx)
unfolding drop_claimed
adds_drop_claimed s ctx = adds_option 1 s (claim_of ctx s) _ _ (adds_none 1 s _ refl) (λ a. adds_then 1 0 s _ _ (adds_called _ _ s (called (with_rx (without_claim ctx s.rx) s)) refl) (adds_drop a _))

pub adds_cancel : (s : State) (test : Receive → Bool) → Adds 1 s (cancel s test)
unfolding cancel
adds_cancel s test = adds_option 1 s (cancellable test s.rx) _ _ (adds_none 1 s _ refl) (λ r. adds_called _ _ s (count Recv false (called (with_rx (without_posted test s.rx) s))) refl)

pub adds_call : (s : State) (c : Call) → Adds 1 s (do_call s c).1
unfolding do_call insert remove reg close put
adds_call s (Transmit o) = adds_answer_of 1 _ s _ (adds_transmit s o)
adds_call s (Post p) = adds_answer_of 1 _ s _ (adds_post s p)
adds_call s (Look how source tag ignore ctx) = adds_answer_of 1 _ s _ (adds_look how (want_of s true source tag ignore) ctx s)
adds_call s (TakeClaimed buf ctx) = adds_answer_of 1 _ s _ (adds_take s buf ctx)
adds_call s (DropClaimed ctx) = adds_answer_of 1 _ s _ (adds_drop_claimed s ctx)
adds_call s (Cancel ctx) = adds_answer_of 1 _ s _ (adds_cancel s (λ r. r.ctx == ctx))
adds_call s CancelFirst = adds_answer_of 1 _ s _ (adds_cancel s (λ r. true))
adds_call s (Insert name) = adds_none 1 s _ (grind rules)
adds_call s (Remove index) = adds_none 1 s _ (grind rules)
adds_call s (Reg key access bytes) = adds_none 1 s _ (grind rules)
adds_call s (Close key) = adds_none 1 s _ (grind rules)
adds_call s (Put key at bytes) = adds_none 1 s _ (grind rules)
adds_call s (Show key) = adds_none 1 s _ refl
adds_call s (Count class) = adds_none 1 s _ refl
