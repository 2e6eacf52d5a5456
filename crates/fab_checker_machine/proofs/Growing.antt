-- How many entries a step writes: what is told before the step of the room that they need is what is so after it.
use Rattle.std.proofs.Common.{◌≡◌, ℕ, ◌+◌, Bool, true, false, cond, List, [], length, Option, Some, None, refl, sym, subst, arith, length-append}
use Rattle.std.specs.Prelude.{find, is_some}
use Rattle.std.specs.Option.{option_map_or}
use Rattle.fab_base.specs.declared.items.ItemHead.{ItemHead}
use Rattle.fab_base.specs.declared.items.Outcome.{Outcome}
use Rattle.fab_base.specs.declared.items.Outcome.TheVariants.{Done}
use Rattle.fab_base.specs.declared.entries.ErrKind.{ErrKind}
use Rattle.fab_base.specs.declared.entries.PeekHow.{PeekHow}
use Rattle.fab_base.specs.declared.entries.PeekHow.TheVariants.{Peek, Claim, Discard}
use Rattle.fab_base.specs.declared.operations.Receive.{Receive}
use Rattle.fab_base.specs.declared.operations.Arrival.{Arrival}
use Rattle.fab_base.specs.declared.operations.Operation.{Operation}
use Rattle.fab_base.specs.declared.entries.Taken.{Taken}
use Rattle.fab_base.specs.declared.items.Want.{Want}
use Rattle.fab_model.specs.State.{State, Completions, fits, writing, with_tx}
use Rattle.fab_model.specs.Complete.{fill}
use Rattle.fab_model.specs.Matching.{takes}
use Rattle.fab_model.specs.Receiving.{Posting, give, drop_arrival, taken_by, receive_of, post, look_at, look, claim_of, take_claimed, drop_claimed, cancellable, cancel}
use Rattle.fab_model.specs.Sending.{end_with, ending, do_sent, transmitting, going_on}
use Rattle.fab_base.specs.Kinds.{refusal_of}
use Rattle.fab_model.proofs.Unchanged.{book_cq}
use Rattle.fab_checker_machine.specs.Room.{has_room, entries_given, entries_ended, entries_sent}

-- so many entries lead from one queue to the other
pub record Grows (n : ℕ) (cq after : Completions) : Type 0 where
  pub written : length after.written ≡ length cq.written + n
  pub taken_out : after.taken_out ≡ cq.taken_out
  pub size : after.size ≡ cq.size

pub fits_grown : (n : ℕ) (cq after : Completions) → Grows n cq after → fits after ≡ has_room n cq
fits_grown n cq after g = rw (g.written, g.taken_out, g.size) refl

pub none_written : (cq : Completions) → Grows 0 cq cq
none_written cq = record { written = omega arith; taken_out = refl; size = refl }

pub one_written : (call : Option ℕ) (entry : Taken) (cq : Completions) → Grows 1 cq (writing call entry cq)
one_written call entry cq = record { written = length-append cq.written _; taken_out = refl; size = refl }

-- ---- the parts

pub fill_grows : (r : Receive) (place source : ℕ) (head : ItemHead) (bytes : List ℕ) (s : State) → Grows 1 s.cq (fill r place source head bytes s).cq
unfolding fill
fill_grows r place source head bytes s = one_written _ _ s.cq

give_grows_by : (r : Receive) (place : ℕ) (a : Arrival) (s : State) (b : Option (List ℕ)) → a.bytes ≡ b → Grows (entries_given a) s.cq (give r place a s).cq
unfolding give
give_grows_by r place a s None e = rw (e, give) (none_written s.cq)
give_grows_by r place a s (Some bytes) e = rw (e, give) (rw (book_cq _ a.source a.head (fill r place a.source a.head bytes s)) (fill_grows r place a.source a.head bytes s))

pub give_grows : (r : Receive) (place : ℕ) (a : Arrival) (s : State) → Grows (entries_given a) s.cq (give r place a s).cq
give_grows r place a s = give_grows_by r place a s a.bytes refl

drop_cq_by : (a : Arrival) (s : State) (b : Option (List ℕ)) → a.bytes ≡ b → (drop_arrival a s).cq ≡ s.cq
unfolding drop_arrival
drop_cq_by a s None e = rw (e, drop_arrival) refl
drop_cq_by a s (Some bytes) e = rw (e, drop_arrival) (book_cq _ a.source a.head s)

drop_cq : (a : Arrival) (s : State) → (drop_arrival a s).cq ≡ s.cq
drop_cq a s = drop_cq_by a s a.bytes refl

-- ---- the end of an operation

ended_error : (outcome : Outcome) (o : Operation) (kind : ErrKind) → refusal_of outcome ≡ Some kind → entries_ended outcome o ≡ 1
ended_error outcome o kind e = rw (e, entries_ended) refl

ended_done : (outcome : Outcome) (o : Operation) (b : Bool) → refusal_of outcome ≡ None → o.silent ≡ b → entries_ended outcome o ≡ cond b 0 1
ended_done outcome o b e f = by_silent b f
  where
    by_silent : (b : Bool) → o.silent ≡ b → entries_ended outcome o ≡ cond b 0 1
    by_silent true f = rw (e, f, entries_ended) refl
    by_silent false f = rw (e, f, entries_ended) refl

end_error : (outcome : Outcome) (bytes : List ℕ) (o : Operation) (s : State) (kind : ErrKind) → refusal_of outcome ≡ Some kind → Grows 1 s.cq (end_with outcome bytes o s).cq
unfolding end_with
end_error outcome bytes o s kind e = rw (e, end_with) (one_written _ _ s.cq)

end_done : (outcome : Outcome) (bytes : List ℕ) (o : Operation) (s : State) (b : Bool) → refusal_of outcome ≡ None → o.silent ≡ b → Grows (cond b 0 1) s.cq (end_with outcome bytes o s).cq
unfolding end_with
end_done outcome bytes o s true e f = rw (e, f, end_with) (none_written s.cq)
end_done outcome bytes o s false e f = rw (e, f, end_with) (one_written _ _ s.cq)

end_grows_by : (outcome : Outcome) (bytes : List ℕ) (o : Operation) (s : State) (k : Option ErrKind) → refusal_of outcome ≡ k → Grows (entries_ended outcome o) s.cq (end_with outcome bytes o s).cq
end_grows_by outcome bytes o s (Some kind) e = subst (λ n. Grows n s.cq (end_with outcome bytes o s).cq) (sym (ended_error outcome o kind e)) (end_error outcome bytes o s kind e)
end_grows_by outcome bytes o s None e = subst (λ n. Grows n s.cq (end_with outcome bytes o s).cq) (sym (ended_done outcome o o.silent e refl)) (end_done outcome bytes o s o.silent e refl)

pub end_grows : (outcome : Outcome) (bytes : List ℕ) (o : Operation) (s : State) → Grows (entries_ended outcome o) s.cq (end_with outcome bytes o s).cq
end_grows outcome bytes o s = end_grows_by outcome bytes o s (refusal_of outcome) refl

sent_grows_by : (s : State) (t : ℕ) (o : Option Operation) → ending t s.tx ≡ o → Grows (entries_sent t s) s.cq (do_sent s t).cq
unfolding do_sent
sent_grows_by s t None e = rw (e, do_sent) (none_written s.cq)
sent_grows_by s t (Some o) e = rw (e, do_sent) (end_grows Done [] o (with_tx (going_on t (transmitting t s.tx)) s))

pub fits_sent : (s : State) (t : ℕ) → fits (do_sent s t).cq ≡ has_room (entries_sent t s) s.cq
fits_sent s t = fits_grown _ _ _ (sent_grows_by s t (ending t s.tx) refl)

-- ---- receive calls

look_at_cq : (how : PeekHow) (want : Want) (ctx : ℕ) (a : Arrival) (s : State) → (look_at how want ctx a s).cq ≡ s.cq
look_at_cq Peek want ctx a s = refl
look_at_cq Claim want ctx a s = refl
look_at_cq Discard want ctx a s = drop_cq a _

look_grows_by : (how : PeekHow) (want : Want) (ctx : ℕ) (s : State) (a : Option Arrival) → find (takes want) s.rx.unexpected ≡ a → Grows 1 s.cq (look how want ctx s).cq
unfolding look
look_grows_by how want ctx s None e = rw (e, look) (one_written _ _ s.cq)
look_grows_by how want ctx s (Some a) e = rw (e, look) (rw (look_at_cq how want ctx a _) (one_written _ _ s.cq))

pub fits_look : (how : PeekHow) (want : Want) (ctx : ℕ) (s : State) → fits (look how want ctx s).cq ≡ has_room 1 s.cq
fits_look how want ctx s = fits_grown 1 s.cq _ (look_grows_by how want ctx s (find (takes want) s.rx.unexpected) refl)

pub fits_take : (s : State) (buf : List ℕ) (ctx : ℕ) (a : Arrival) → claim_of ctx s ≡ Some a → fits (take_claimed s buf ctx).cq ≡ has_room (entries_given a) s.cq
unfolding take_claimed
fits_take s buf ctx a e = rw (e, take_claimed) (fits_grown _ s.cq _ (give_grows _ 0 a _))

pub fits_drop : (s : State) (ctx : ℕ) (a : Arrival) → claim_of ctx s ≡ Some a → fits (drop_claimed s ctx).cq ≡ has_room 1 s.cq
unfolding drop_claimed
fits_drop s ctx a e = rw (e, drop_claimed) (rw (drop_cq a _) (fits_grown 1 s.cq _ (one_written _ _ s.cq)))

pub fits_cancel : (s : State) (test : Receive → Bool) (r : Receive) → cancellable test s.rx ≡ Some r → fits (cancel s test).cq ≡ has_room 1 s.cq
unfolding cancel
fits_cancel s test r e = rw (e, cancel) (fits_grown 1 s.cq _ (one_written _ _ s.cq))

pub fits_post_none : (s : State) (p : Posting) → taken_by (receive_of s p) s ≡ None → fits (post s p).cq ≡ has_room 0 s.cq
unfolding post
fits_post_none s p e = rw (e, post) (fits_grown 0 s.cq _ (none_written s.cq))

pub fits_post_some : (s : State) (p : Posting) (a : Arrival) → taken_by (receive_of s p) s ≡ Some a → fits (post s p).cq ≡ has_room (entries_given a) s.cq
unfolding post
fits_post_some s p a e = rw (e, post) (fits_grown _ s.cq _ (give_grows _ 0 a _))

-- ---- of a message that is claimed

take_grown_by : (s : State) (buf : List ℕ) (ctx n : ℕ) (o : Option Arrival) → claim_of ctx s ≡ o → is_some o ≡ true → n ≡ option_map_or entries_given o 0 → fits (take_claimed s buf ctx).cq ≡ has_room n s.cq
take_grown_by s buf ctx n None e some is = absurd (cc)
take_grown_by s buf ctx n (Some a) e some is = rw is (fits_take s buf ctx a e)

pub take_grown : (s : State) (buf : List ℕ) (ctx n : ℕ) → is_some (claim_of ctx s) ≡ true → n ≡ option_map_or entries_given (claim_of ctx s) 0 → fits (take_claimed s buf ctx).cq ≡ has_room n s.cq
take_grown s buf ctx n some is = take_grown_by s buf ctx n (claim_of ctx s) refl some is

drop_grown_by : (s : State) (ctx : ℕ) (o : Option Arrival) → claim_of ctx s ≡ o → is_some o ≡ true → fits (drop_claimed s ctx).cq ≡ has_room 1 s.cq
drop_grown_by s ctx None e some = absurd (cc)
drop_grown_by s ctx (Some a) e some = fits_drop s ctx a e

pub drop_grown : (s : State) (ctx : ℕ) → is_some (claim_of ctx s) ≡ true → fits (drop_claimed s ctx).cq ≡ has_room 1 s.cq
drop_grown s ctx some = drop_grown_by s ctx (claim_of ctx s) refl some
