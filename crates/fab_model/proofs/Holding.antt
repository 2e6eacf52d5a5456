-- In every state that turns lead to, the first operation that a fence holds back has a fence, and one accepted before it for the same peer has not ended. So where none is live for a peer none is held
-- for it, and at rest, where none awaits a reply, none is held at all.
--     Fenced s      the invariant of a peer's state
use Rattle.std.proofs.Common.{◌≡◌, ◌≤◌, ◌<◌, ◌+◌, ◌==◌, ℕ, zero, suc, Bool, true, false, ◌||◌, List, [], ◌∷◌, ◌++◌, length, map, get_or, replicate, cond, slice_get, Option, Some, None, ◌⊎◌, inl, inr, refl, sym, ◌∙◌, ap, subst, arith, rules, append_assoc, length-append, length-set}
use Rattle.std.specs.Prelude.{⊤, find, position, slice_index_or, slice_index, slice_set, sum_by}
use Rattle.std.specs.List.{list_any}
use Rattle.std.proofs.lemmas.Bool.{and_parts, eqb-true, lt-ltb, or_parts as neither}
use Rattle.std.proofs.lemmas.Bool.Decides.{nat_tests}
use Rattle.std.proofs.lemmas.List.{map-append, length-replicate}
use Rattle.std.proofs.lemmas.List.Sums.{sum_by-cons}
use Rattle.std.proofs.lemmas.Option.{slice_get-get_or}
use Rattle.fab_base.specs.declared.items.Item.{Item}
use Rattle.fab_base.specs.declared.items.ItemHead.{ItemHead}
use Rattle.fab_base.specs.declared.items.Outcome.TheVariants.{Done}
use Rattle.fab_base.specs.declared.items.Access.{Access}
use Rattle.fab_base.specs.declared.faults.Fault.{Fault}
use Rattle.fab_base.specs.declared.faults.Fault.TheVariants.{NoEntry}
use Rattle.fab_base.specs.declared.peers.LineResult.{LineResult}
use Rattle.fab_base.specs.declared.peers.LineResult.TheVariants.{Refused, Index}
use Rattle.fab_base.specs.declared.operations.Operation.{Operation}
use Rattle.fab_base.specs.declared.operations.Held.{Held}
use Rattle.fab_base.specs.declared.operations.Coming.{Coming}
use Rattle.fab_base.specs.declared.operations.Coming.TheVariants.{Into, Keep, Throw, Request, Answer}
use Rattle.fab_base.specs.declared.peers.Step.{Step}
use Rattle.fab_base.specs.declared.script.Bound.{Bound}
use Rattle.fab_base.specs.declared.script.Conf.{Conf}
use Rattle.fab_model.specs.State.{State, Receiving, Transmitting, accepted_for, held_for, awaits, in_use, lookup, coming_from, with_rx, with_tx}
use Rattle.fab_base.specs.Kinds.{at_delivery}
use Rattle.fab_base.specs.Replies.{at_either}
use Rattle.fab_base.proofs.Bools.{not_true}
use Rattle.fab_base.proofs.Lists.{list_all_at}
use Rattle.fab_base.proofs.Numbers.{le_same as calls_le}
use Rattle.fab_model.specs.Sending.{Order, is_busy, let_out, operation_of, letting_out, going_on, accepting, transmit_fault, transmit, transmit_to, is_of_item, ending, transmitting, end_with, do_sent, is_answered_by, answering, do_answer}
use Rattle.fab_model.specs.Receiving.{want_of}
use Rattle.fab_model.specs.Arrivals.{keeping, made_whole, tail_to, do_tail}
use Rattle.fab_model.specs.Calls.{Call, Transmit, Post, Look, TakeClaimed, DropClaimed, Cancel, CancelFirst, Insert, Remove, Reg, Close, Put, Show, Count, answer, upto, peer_named, is_peer, insert_new, insert, remove, reg, close, put, do_call}
use Rattle.fab_model.specs.Orders.{Turn, Leads, Reached}
use Rattle.fab_model.specs.Peers.{Actor, fabric}
use Rattle.fab_model.specs.Replay.{fresh, newly, lines_of, opening, agree_all, is_idle, all_idle, at_rest, is_drained}
use Rattle.fab_model.specs.Views.{IsPrefixOf, rule, seen}
use Rattle.fab_model.proofs.Firsts.{not_found}
use Rattle.fab_model.proofs.Passes.{Passes, end_passes, to_passes, call_passes, head_passes, draw_passes}
use Rattle.fab_model.proofs.Rests.{Rests, same, then, end_rests, book_rests, fill_rests, release_rests, fault_rests, post_rests, look_rests, take_rests, drop_claimed_rests, cancel_rests, head_rests, draw_rests, request_rests}
use Rattle.fab_model.proofs.Patient.{mapped, accepted_within}
use Rattle.fab_model.proofs.Replays.{reached_sound}
use Rattle.fab_model.proofs.Turns.{slice_get-set}
use Rattle.fab_model.proofs.Views.{rule_is}
use Rattle.fab_model.proofs.Steps.{Kept, step_keeps}
use Rattle.fab_model.proofs.Fences.{Rising, rising_more, rising_next, calls_to, calls_for, held_calls, Placed, placed_more, placed_within, waits_has, FencedBy, letting_rises, letting_waits, letting_placed, going_fenced}

-- ---- a peer's state

pub record Fenced (s : State) : Type 0 where
  pub by : FencedBy s.tx s.calls
  -- each index of the address vector names a peer
  pub named : (i t : ℕ) → lookup s.av i ≡ Some t → t < length s.tx.accepted
  pub count : length s.tx.sent ≡ length s.tx.accepted

prefix_le : {X : Type 0} (xs ys : List X) → IsPrefixOf xs ys → length xs ≤ length ys
prefix_le xs ys more = omega (arith, length-append xs more.0, ap length more.1)

-- what leaves the operations alone
rests_fenced : (s u : State) → Passes s u → Rests s u → Fenced s → Fenced u
rests_fenced s u passes rests f = record {
  by = record {
    rising = λ t. rw (rests.live, rests.held) (rising_more s.calls u.calls (calls_for s.tx t) rests.calls (f.by.rising t));
    waits = λ t. rw (rests.live, rests.held) (f.by.waits t);
    placed = rw (rests.live) (placed_more s.tx.accepted u.tx.accepted s.tx.live (λ q. prefix_le _ _ (passes.ready q)) f.by.placed);
  };
  named = λ i t e. let before = f.named i t (ap (λ av. lookup av i) (sym (rests.av)) ∙ e) in omega (arith, before, passes.count);
  count = ap length passes.sent ∙ f.count ∙ sym (passes.count);
}

-- ---- a transmit call

accepting_fenced : (t : ℕ) (o : Held) (tx : Transmitting) (calls : ℕ) → o.call ≡ calls → t < length tx.accepted → FencedBy tx calls → FencedBy (accepting t o tx) (calls + 1)
unfolding accepting
accepting_fenced t o tx calls is lt f =
    let next : Transmitting = record tx { ops = tx.ops + 1 } in
    let mine = calls_to t tx.live in
    let held = held_calls (held_for tx t) in
    let pushed : (mine ++ held) ++ calls ∷ [] ≡ mine ++ held_calls (held_for tx t ++ o ∷ []) =
    append_assoc mine held (calls ∷ []) ∙ ap (λ ns. mine ++ ns) (ap (λ n. held ++ n ∷ []) (sym is) ∙ sym (map-append (λ (o : Held). o.call) (held_for tx t) (o ∷ []))) in
    record {
      rising = letting_rises t (held_for tx t ++ o ∷ []) next (calls + 1) (subst (λ ns. Rising (ns ++ (calls + 1) ∷ [])) pushed (rising_next calls (mine ++ held) (f.rising t)))
          (λ q differ. rising_more calls (calls + 1) (calls_for tx q) (omega arith) (f.rising q));
      waits = letting_waits t (held_for tx t ++ o ∷ []) next (λ q differ. f.waits q);
      placed = letting_placed t (held_for tx t ++ o ∷ []) next lt f.placed;
    }

letting_count : (t : ℕ) (held : List Held) (tx : Transmitting) → length (letting_out t held tx).accepted ≡ length tx.accepted
unfolding letting_out
letting_count t held tx = length-set tx.accepted t _

letting_sent : (t : ℕ) (held : List Held) (tx : Transmitting) → (letting_out t held tx).sent ≡ tx.sent
unfolding letting_out
letting_sent t held tx = refl

transmit_fenced : (s : State) (o : Order) → Fenced s → Fenced (transmit s o)
unfolding transmit transmit_to accepting
transmit_fenced s o f = go (lookup s.av o.dest) refl
  where
    made : (t : ℕ) → t < length s.tx.accepted → Fenced (transmit_to t s o)
    made t lt =
        let held = held_for s.tx t ++ operation_of s o ∷ [] in
        let next : Transmitting = (let tx = s.tx in record tx { ops = tx.ops + 1 }) in
        record {
          by = accepting_fenced t (operation_of s o) s.tx s.calls refl lt f.by;
          named = λ i q e. omega (arith, f.named i q e, letting_count t held next);
          count = ap length (letting_sent t held next) ∙ f.count ∙ sym (letting_count t held next);
        }

    go : (peer : Option ℕ) → lookup s.av o.dest ≡ peer → Fenced (elim peer [ None ↦ s | Some t ↦ transmit_to t s o ])
    go None e = f
    go (Some t) e = made t (f.named o.dest t e)

-- ---- the end of an operation

sent_mine : (t place : ℕ) (o : Operation) → is_of_item t place o ≡ true → o.dest ≡ t
sent_mine t place o e = eqb-true _ _ (and_parts _ _ (and_parts _ _ e).0).0

sent_fenced : (s : State) (t : ℕ) → Fenced s → Fenced (do_sent s t)
unfolding do_sent transmitting
sent_fenced s t f = go (ending t s.tx) refl
  where
    none : ending t s.tx ≡ None → Fenced (with_tx (transmitting t s.tx) s)
    none e =
        let stays = not_found (is_of_item t (slice_index_or s.tx.sent t 0)) s.tx.live e in
        record {
          by = record {
            rising = λ q. rw stays (f.by.rising q);
            waits = λ q. rw stays (f.by.waits q);
            placed = rw stays f.by.placed;
          };
          named = f.named;
          count = length-set s.tx.sent t _ ∙ f.count;
        }

    ended : (o : Operation) → ending t s.tx ≡ Some o → Fenced (with_tx (going_on t (transmitting t s.tx)) s)
    ended o e =
        let lt = placed_within s.tx.accepted (is_of_item t (slice_index_or s.tx.sent t 0)) t s.tx.live o (sent_mine t (slice_index_or s.tx.sent t 0)) f.by.placed e in
        let next = transmitting t s.tx in
        record {
          by = going_fenced t (is_of_item t (slice_index_or s.tx.sent t 0)) (sent_mine t (slice_index_or s.tx.sent t 0)) s.tx next refl refl refl s.calls lt f.by;
          named = λ i q e. omega (arith, f.named i q e, letting_count t (held_for next t) next);
          count = ap length (letting_sent t (held_for next t) next) ∙ length-set s.tx.sent t _ ∙ f.count ∙ sym (letting_count t (held_for next t) next);
        }

    go : (o : Option Operation) → ending t s.tx ≡ o
        → Fenced (elim o [ None ↦ with_tx (transmitting t s.tx) s | Some o ↦ end_with Done [] o (with_tx (going_on t (transmitting t s.tx)) s) ])
    go None e = none e
    go (Some o) e = rests_fenced _ _ (end_passes Done [] o _) (end_rests Done [] o _) (ended o e)

answer_mine : (tx : Transmitting) (source : ℕ) (reply : ItemHead) (o : Operation) → is_answered_by tx source reply o ≡ true → o.dest ≡ source
answer_mine tx source reply o e = eqb-true _ _ (and_parts _ _ (and_parts _ _ (and_parts _ _ e).0).0).0

answer_fenced : (s : State) (source : ℕ) (reply : ItemHead) (bytes : List ℕ) → Fenced s → Fenced (do_answer s source reply bytes)
unfolding do_answer answering
answer_fenced s source reply bytes f = go (find (is_answered_by s.tx source reply) s.tx.live) refl
  where
    ended : (o : Operation) → find (is_answered_by s.tx source reply) s.tx.live ≡ Some o → Fenced (with_tx (going_on source (answering source reply s.tx)) s)
    ended o e =
        let lt = placed_within s.tx.accepted (is_answered_by s.tx source reply) source s.tx.live o (answer_mine s.tx source reply) f.by.placed e in
        let next = answering source reply s.tx in
        record {
          by = going_fenced source (is_answered_by s.tx source reply) (answer_mine s.tx source reply) s.tx next refl refl refl s.calls lt f.by;
          named = λ i q e. omega (arith, f.named i q e, letting_count source (held_for next source) next);
          count = ap length (letting_sent source (held_for next source) next) ∙ f.count ∙ sym (letting_count source (held_for next source) next);
        }

    go : (o : Option Operation) → find (is_answered_by s.tx source reply) s.tx.live ≡ o
        → Fenced (elim o [ None ↦ s | Some o ↦ end_with reply.outcome bytes o (with_tx (going_on source (answering source reply s.tx)) s) ])
    go None e = f
    go (Some o) e = rests_fenced _ _ (end_passes reply.outcome bytes o _) (end_rests reply.outcome bytes o _) (ended o e)

-- ---- the address vector

abbrev Below : ℕ → List ℕ → Type 0
Below n [] = ⊤
Below n (x ∷ xs) = (x < n) × Below n xs

below_onto : (n x : ℕ) (xs : List ℕ) → Below n xs → x < n → Below n (xs ++ x ∷ [])
below_onto n x [] b lt = (lt, tt)
below_onto n x (y ∷ xs) b lt = (b.0, below_onto n x xs b.1 lt)

below_upto : (n m : ℕ) → m ≤ n → Below n (upto m)
below_upto n zero le = tt
below_upto n (suc m) le = below_onto n m (upto m) (below_upto n m (omega (arith, le))) (omega (arith, le))

found_below : (n k : ℕ) (test : ℕ → Bool) (xs : List ℕ) → Below n xs → find test xs ≡ Some k → k < n
found_below n k test [] b e = absurd (cc)
found_below n k test (x ∷ xs) b e = go (test x) (found_below n k test xs b.1) e
  where
    go : (here : Bool) → (find test xs ≡ Some k → k < n) → cond here (Some x) (find test xs) ≡ Some k → k < n
    go true more e = let is : x ≡ k = cc in subst (λ j. j < n) is b.0
    go false more e = more e

-- an index behind the last one, and an index that is taken away
pushed : (av : List (Option ℕ)) (k i t : ℕ) → lookup (av ++ Some k ∷ []) i ≡ Some t → (lookup av i ≡ Some t) ⊎ (t ≡ k)
pushed [] k zero t e = inr (let is : k ≡ t = cc in sym is)
pushed [] k (suc i) t e = inl e
pushed (a ∷ av) k zero t e = inl e
pushed (a ∷ av) k (suc i) t e = pushed av k i t e

taken_away : (av : List (Option ℕ)) (j i t : ℕ) → lookup (slice_set av j None) i ≡ Some t → lookup av i ≡ Some t
taken_away [] j i t e = e
taken_away (a ∷ av) zero zero t e = absurd (cc)
taken_away (a ∷ av) zero (suc i) t e = e
taken_away (a ∷ av) (suc j) zero t e = e
taken_away (a ∷ av) (suc j) (suc i) t e = taken_away av j i t e

insert_fenced : (s : State) (name : List ℕ) → Fenced s → Fenced (insert s name).1
unfolding insert
insert_fenced s name f = go (peer_named (length s.tx.sent) name) refl
  where
    new : (k : ℕ) → k < length s.tx.accepted → (b : Bool)
        → Fenced (let r : LineResult × State = elim b [ true ↦ (Index (Some (length s.av)), record s { av = s.av ++ Some k ∷ [] }) | false ↦ (Index None, s) ] in r).1
    new k lt true = record { by = f.by; named = λ i t e. elim (pushed s.av k i t e) [ inl old ↦ f.named i t old | inr is ↦ omega (arith, is, lt) ]; count = f.count }
    new k lt false = f

    at : (k : ℕ) → k < length s.tx.accepted → (p : Option ℕ)
        → Fenced (let r : LineResult × State = elim p [ Some index ↦ (Index (Some index), s) | None ↦ insert_new s k ] in r).1
    at k lt (Some index) = f
    at k lt None = new k lt _

    go : (o : Option ℕ) → peer_named (length s.tx.sent) name ≡ o
        → Fenced (let r : LineResult × State = elim o [ None ↦ (Index None, s) | Some k ↦ elim (position (is_peer k) s.av) [ Some index ↦ (Index (Some index), s) | None ↦ insert_new s k ] ] in r).1
    go None e = f
    go (Some k) e =
        let n = length s.tx.sent in
        let lt = found_below n k _ (upto n) (below_upto n n (omega arith)) e in
        at k (omega (arith, lt, f.count)) _

remove_fenced : (s : State) (index : ℕ) → Fenced s → Fenced (remove s index).1
unfolding remove
remove_fenced s index f = go (lookup s.av index)
  where
    go : (o : Option ℕ) → Fenced (let r : LineResult × State = elim o [ None ↦ (Refused NoEntry, s) | Some _ ↦ (LineResult.Done, record s { av = slice_set s.av index None }) ] in r).1
    go None = f
    go (Some _) = record { by = f.by; named = λ i t e. f.named i t (taken_away s.av index i t e); count = f.count }

-- ---- every call

reg_rests : (s : State) (key : ℕ) (access : Access) (bytes : List ℕ) → Rests s (reg s key access bytes).1
unfolding reg
reg_rests s key access bytes = same (grind rules) (grind rules) (calls_le s.calls _ (grind rules))

close_rests : (s : State) (key : ℕ) → Rests s (close s key).1
unfolding close
close_rests s key = same (grind rules) (grind rules) (calls_le s.calls _ (grind rules))

put_rests : (s : State) (key at : ℕ) (bytes : List ℕ) → Rests s (put s key at bytes).1
unfolding put
put_rests s key at bytes = same (grind rules) (grind rules) (calls_le s.calls _ (grind rules))

call_fenced : (s : State) (c : Call) → Fenced s → Fenced (do_call s c).1
unfolding do_call
call_fenced s (Transmit o) f = go (transmit_fault s o)
  where
    go : (fault : Option Fault) → Fenced (answer fault s (transmit s o)).1
    go None = transmit_fenced s o f
    go (Some fault) = f
call_fenced s (Post p) f = rests_fenced s _ (call_passes s (Post p)) (fault_rests _ s _ (post_rests s p)) f
call_fenced s (Look how source tag ignore ctx) f = rests_fenced s _ (call_passes s (Look how source tag ignore ctx)) (fault_rests _ s _ (look_rests how (want_of s true source tag ignore) ctx s)) f
call_fenced s (TakeClaimed buf ctx) f = rests_fenced s _ (call_passes s (TakeClaimed buf ctx)) (fault_rests _ s _ (take_rests s buf ctx)) f
call_fenced s (DropClaimed ctx) f = rests_fenced s _ (call_passes s (DropClaimed ctx)) (fault_rests _ s _ (drop_claimed_rests s ctx)) f
call_fenced s (Cancel ctx) f = rests_fenced s _ (call_passes s (Cancel ctx)) (fault_rests _ s _ (cancel_rests s (λ r. r.ctx == ctx))) f
call_fenced s CancelFirst f = rests_fenced s _ (call_passes s CancelFirst) (fault_rests _ s _ (cancel_rests s (λ r. true))) f
call_fenced s (Insert name) f = insert_fenced s name f
call_fenced s (Remove index) f = remove_fenced s index f
call_fenced s (Reg key access bytes) f = rests_fenced s _ (call_passes s (Reg key access bytes)) (reg_rests s key access bytes) f
call_fenced s (Close key) f = rests_fenced s _ (call_passes s (Close key)) (close_rests s key) f
call_fenced s (Put key at bytes) f = rests_fenced s _ (call_passes s (Put key at bytes)) (put_rests s key at bytes) f
call_fenced s (Show key) f = f
call_fenced s (Count class) f = f

-- ---- items

with_rx_fenced : (rx : Receiving) (s : State) → Fenced s → Fenced (with_rx rx s)
with_rx_fenced rx s f = record { by = f.by; named = f.named; count = f.count }

to_fenced : (c : Option Coming) (s : State) (source : ℕ) (head : ItemHead) (bytes : List ℕ) → Fenced s → Fenced (tail_to c s source head bytes)
unfolding tail_to
to_fenced None s source head bytes f = f
to_fenced (Some (Into r place)) s source head bytes f =
    rests_fenced s _ (to_passes (Some (Into r place)) s source head bytes) (then (then (fill_rests r place source head bytes s) (book_rests (at_either head.ack) source head _)) (release_rests r _)) f
to_fenced (Some Keep) s source head bytes f =
    rests_fenced s _ (to_passes (Some Keep) s source head bytes) (then (same refl refl (omega arith)) (book_rests (at_delivery head.ack) source head (with_rx (keeping source bytes s.rx) s))) f
to_fenced (Some Throw) s source head bytes f = rests_fenced s _ (to_passes (Some Throw) s source head bytes) (book_rests (at_either head.ack) source head s) f
to_fenced (Some Request) s source head bytes f = rests_fenced s _ (to_passes (Some Request) s source head bytes) (request_rests s source head bytes) f
to_fenced (Some Answer) s source head bytes f = answer_fenced s source head bytes f

tail_fenced : (s : State) (source : ℕ) (head : ItemHead) (bytes : List ℕ) → Fenced s → Fenced (do_tail s source head bytes)
unfolding do_tail
tail_fenced s source head bytes f = to_fenced (coming_from s.rx source) _ source head bytes (with_rx_fenced (made_whole source s.rx) s f)

pub fenced_kept : Kept Fenced
fenced_kept = record {
  call = call_fenced;
  head = λ s source head f. rests_fenced s _ (head_passes s source head) (head_rests s source head) f;
  tail = tail_fenced;
  sent = sent_fenced;
  draw = λ s f. rests_fenced s _ (draw_passes s) (draw_rests s) f;
  read = λ s f. record { by = f.by; named = f.named; count = f.count };
}

-- ---- turns

none_held : (n t : ℕ) → get_or (replicate n []) t [] ≡ (let none : List Held = [] in none)
none_held zero t = refl
none_held (suc n) zero = refl
none_held (suc n) (suc t) = none_held n t

named_upto : (n i t : ℕ) → lookup (map Some (upto n)) i ≡ Some t → t < n
named_upto zero i t e = absurd (cc)
named_upto (suc n) i t e =
    elim (pushed (map Some (upto n)) n i t (ap (λ av. lookup av i) (sym (map-append Some (upto n) (n ∷ []))) ∙ e)) [ inl before ↦ (let lt = named_upto n i t before in omega (arith, lt)) | inr is ↦ omega (arith, is) ]

fresh_fenced : (conf : Conf) → Fenced (fresh conf)
fresh_fenced conf = record {
  by = record {
    rising = λ t. rw (none_held conf.peers t) (tt, tt);
    waits = λ t. rw (none_held conf.peers t) refl;
    placed = tt;
  };
  named = λ i t e. let lt = named_upto conf.peers i t e in omega (arith, lt, length-replicate {A = List Item} conf.peers []);
  count = length-replicate {A = ℕ} conf.peers 0 ∙ sym (length-replicate {A = List Item} conf.peers []);
}

-- every peer's operations are so
abbrev pub AllFenced : List Actor → Type 0
AllFenced states = (p : ℕ) (a : Actor) → slice_get states p ≡ Some a → Fenced a.state

pub opening_fenced : (bound : Bound) → AllFenced (opening bound)
unfolding opening
opening_fenced bound p a e =
    let conf = bound.script.conf in
    let i = mapped (λ p. newly conf (lines_of bound p)) (upto conf.peers) p a e in
    rw (i.1) (let f = fresh_fenced conf in record { by = f.by; named = f.named; count = f.count })

pub leads_fenced : (turns : List (Turn Step)) (states last : List Actor) → AllFenced states → Leads (rule fabric) states turns last → AllFenced last
leads_fenced [] states last all leads = subst AllFenced leads all
leads_fenced (t ∷ turns) states last all (s, stands, rest) =
    leads_fenced turns (slice_set states t.peer s) last (λ p a e. elim (slice_get-set states t.peer p s a e) [
      | inl before ↦ all p a before
      | inr now ↦
          let i = rule_is fabric states t.peer t.step s stands in
          let f = step_keeps Fenced fenced_kept (seen fabric states t.peer) i.0 s t.step i.2 (all t.peer i.0 i.1) in
          subst (λ (b : Actor). Fenced b.state) (sym (now.1)) f
    ]) rest

pub reached_fenced : (bound : Bound) (schedule : List (List Step)) (states : List Actor) → Reached (rule fabric) (opening bound) schedule states → AllFenced states
reached_fenced bound schedule states reached = leads_fenced reached.0 (opening bound) states (opening_fenced bound) reached.1

-- ---- what is held back waits

-- so where none is live for a peer, none is held back for it
pub none_live_none_held : (s : State) → Fenced s → (t : ℕ) → is_busy s.tx t ≡ false → held_for s.tx t ≡ []
none_live_none_held s f t none = go (held_for s.tx t) (f.by.waits t)
  where
    go : (held : List Held) → let_out (is_busy s.tx t) held ≡ [] → held ≡ []
    go [] e = refl
    go (h ∷ held) e = let w = waits_has (is_busy s.tx t) h held e in absurd (cc (none, w.0))

-- ---- at rest

-- where all for t is transmitted and nothing awaits a reply, none is live for t
none_awaits : (tx : Transmitting) (t : ℕ) (live : List Operation) → Placed tx.accepted live → slice_index tx.sent t ≡ length (accepted_for tx t) → list_any (awaits tx) live ≡ false → list_any (λ (o : Operation). o.dest == t) live ≡ false
none_awaits tx t [] p all none = refl
none_awaits tx t (o ∷ live) p all none = go (o.dest == t) refl (neither (awaits tx o) (list_any (awaits tx) live) none) (none_awaits tx t live p.1 all)
  where
    go : (mine : Bool) → (o.dest == t) ≡ mine → (awaits tx o ≡ false) × (list_any (awaits tx) live ≡ false)
        → (list_any (awaits tx) live ≡ false → list_any (λ (o : Operation). o.dest == t) live ≡ false) → (mine || list_any (λ (o : Operation). o.dest == t) live) ≡ false
    go false is n more = more n.1
    go true is n more =
        let same = eqb-true _ _ is in
        let sent : awaits tx o ≡ true = lt-ltb o.place (slice_index tx.sent o.dest) (omega (arith, p.0, subst (λ k. slice_index tx.sent k ≡ length (accepted_for tx k)) (sym same) all)) in
        absurd (cc (sent, n.0))

agree_at : (p s i : ℕ) (a : Actor) (all : List Actor) (sender : Actor) → agree_all p s a all ≡ true → slice_get all i ≡ Some sender → slice_index sender.state.tx.sent p ≡ length (accepted_for sender.state.tx p)
agree_at p s i a [] sender e has = absurd (cc)
agree_at p s zero a (b ∷ all) sender e has = let is : b ≡ sender = cc in subst (λ (c : Actor). slice_index c.state.tx.sent p ≡ length (accepted_for c.state.tx p)) is (eqb-true _ _ (and_parts _ _ (and_parts _ _ e).0).1)
agree_at p s (suc i) a (b ∷ all) sender e has = agree_at p (s + 1) i a all sender (and_parts _ _ e).1 has

idle_at : (all : List Actor) (p i : ℕ) (rest : List Actor) (a : Actor) → all_idle all p rest ≡ true → slice_get rest i ≡ Some a → is_idle all (p + i) a ≡ true
idle_at all p i [] a e has = absurd (cc)
idle_at all p zero (b ∷ rest) a e has = let is : b ≡ a = cc in let same : p + 0 ≡ p = omega arith in rw same (subst (λ (c : Actor). is_idle all p c ≡ true) is (and_parts _ _ e).0)
idle_at all p (suc i) (b ∷ rest) a e has = let same : p + suc i ≡ (p + 1) + i = omega arith in rw same (idle_at all (p + 1) i rest a (and_parts _ _ e).1 has)

-- at rest all that was accepted for a peer that there is, and that no fence holds back, is transmitted
rest_sent : (states : List Actor) (p t : ℕ) (a receiver : Actor) → at_rest states ≡ true → slice_get states p ≡ Some a → slice_get states t ≡ Some receiver → slice_index a.state.tx.sent t ≡ length (accepted_for a.state.tx t)
unfolding at_rest
rest_sent states p t a receiver rest has there =
    let same : 0 + t ≡ t = omega arith in
    let idle : is_idle states t receiver ≡ true = subst (λ k. is_idle states k receiver ≡ true) same (idle_at states 0 t states receiver rest there) in
    agree_at t 0 p receiver states a (and_parts _ _ (and_parts _ _ (and_parts _ _ idle).0).0).0 has

busy_within : (accepted : List (List Item)) (t : ℕ) (live : List Operation) → Placed accepted live → list_any (λ (o : Operation). o.dest == t) live ≡ true → t < length accepted
busy_within accepted t [] p busy = absurd (cc)
busy_within accepted t (o ∷ live) p busy = go (o.dest == t) refl busy (busy_within accepted t live p.1)
  where
    go : (mine : Bool) → (o.dest == t) ≡ mine → (mine || list_any (λ (o : Operation). o.dest == t) live) ≡ true → (list_any (λ (o : Operation). o.dest == t) live ≡ true → t < length accepted) → t < length accepted
    go true is busy more = subst (λ k. k < length accepted) (eqb-true _ _ is) (accepted_within accepted o.dest o.place p.0)
    go false is busy more = more busy

-- at rest, where no operation of the peer awaits a reply, none of its operations is live, for whatever peer
rest_not_busy :
    (bound : Bound) (schedule : List (List Step)) (states : List Actor) → Reached (rule fabric) (opening bound) schedule states → at_rest states ≡ true
    → (p : ℕ) (a : Actor) → slice_get states p ≡ Some a → list_any (awaits a.state.tx) a.state.tx.live ≡ false → (t : ℕ) → is_busy a.state.tx t ≡ false
rest_not_busy bound schedule states reached rest p a has none t = go (is_busy a.state.tx t) refl
  where
    go : (busy : Bool) → is_busy a.state.tx t ≡ busy → is_busy a.state.tx t ≡ false
    go false e = e
    go true e =
        let f = reached_fenced bound schedule states reached p a has in
        let sound = reached_sound bound schedule states reached in
        let within = busy_within a.state.tx.accepted t a.state.tx.live f.by.placed e in
        let there = slice_get-get_or states t a (omega (arith, within, (sound.own p a has).count, sound.count)) in
        none_awaits a.state.tx t a.state.tx.live f.by.placed (rest_sent states p t a _ rest has there) none

-- and nothing is held back
pub rest_holds_none :
    (bound : Bound) (schedule : List (List Step)) (states : List Actor) → Reached (rule fabric) (opening bound) schedule states → at_rest states ≡ true
    → (p : ℕ) (a : Actor) → slice_get states p ≡ Some a → list_any (awaits a.state.tx) a.state.tx.live ≡ false → (t : ℕ) → held_for a.state.tx t ≡ []
rest_holds_none bound schedule states reached rest p a has none t =
    none_live_none_held a.state (reached_fenced bound schedule states reached p a has) t (rest_not_busy bound schedule states reached rest p a has none t)

none_live : (live : List Operation) → ((t : ℕ) → list_any (λ (o : Operation). o.dest == t) live ≡ false) → live ≡ []
none_live [] none = refl
none_live (o ∷ live) none = let here : (o.dest == o.dest) ≡ true = grind (arith, nat_tests) in let n = neither (o.dest == o.dest) (list_any (λ (x : Operation). x.dest == o.dest) live) (none o.dest) in absurd (cc (here, n.0))

none_in : (held : List (List Held)) → ((t : ℕ) → get_or held t [] ≡ []) → sum_by length held ≡ 0
none_in [] none = refl
none_in (h ∷ held) none = let here : h ≡ [] = none 0 in omega (arith, ap length here, none_in held (λ t. none (suc t)), sum_by-cons length h held)

-- where the peers are drained, no operation of any peer is under way
pub drained_none_in_use :
    (bound : Bound) (schedule : List (List Step)) (states : List Actor) → Reached (rule fabric) (opening bound) schedule states → is_drained states ≡ true
    → (p : ℕ) (a : Actor) → slice_get states p ≡ Some a → in_use a.state.tx ≡ 0
unfolding is_drained
drained_none_in_use bound schedule states reached drained p a has =
    let parts = and_parts _ _ drained in
    let rest = (and_parts _ _ parts.0).0 in
    let none = not_true _ (and_parts _ _ (list_all_at _ states p a parts.1 has)).1 in
    let live = none_live a.state.tx.live (rest_not_busy bound schedule states reached rest p a has none) in
    omega (arith, ap length live, none_in a.state.tx.held (rest_holds_none bound schedule states reached rest p a has none))
