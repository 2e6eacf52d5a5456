-- What goes out to a peer and what is held back for it are, without replies, what was accepted for it, in the order accepted.
use Rattle.std.proofs.Common.{◌≡◌, ◌<◌, ◌+◌, ℕ, Bool, true, false, List, [], ◌∷◌, ◌++◌, length, map, filter, set, get_or, get_or-set_same, slice_get, Option, Some, None, inl, inr, refl, sym, ◌∙◌, ap, ap₂, subst, subst₂, arith, append_assoc, append-nil, length-set}
use Rattle.std.specs.Prelude.{nat_lt, not, ◌==◌}
use Rattle.std.proofs.lemmas.Bool.{cases_eq, lt-ltb, le-ltb}
use Rattle.std.proofs.lemmas.Bool.Decides.{nat_tests}
use Rattle.std.proofs.lemmas.List.{length-replicate, map-append}
use Rattle.std.proofs.lemmas.List.Elements.{filter-append}
use Rattle.fab_base.specs.declared.items.Item.{Item}
use Rattle.fab_base.specs.declared.operations.Held.{Held}
use Rattle.fab_base.specs.declared.operations.Operation.{Operation}
use Rattle.fab_base.specs.declared.script.Conf.{Conf}
use Rattle.fab_model.specs.Matching.{remove_first}
use Rattle.fab_model.specs.State.{State, Transmitting, accepted_for, held_for, lookup}
use Rattle.fab_model.specs.Complete.{joining}
use Rattle.fab_model.specs.Sending.{Order, accepting, going_on, operation_of, transmit_to}
use Rattle.fab_model.specs.Arrivals.{do_draw, do_head, do_tail}
use Rattle.fab_model.specs.Calls.{Call, Transmit, do_call}
use Rattle.fab_model.specs.Orders.{Turn}
use Rattle.fab_model.specs.Replay.{fresh}
use Rattle.fab_model.specs.Views.{IsPrefixOf, View, seen}
use Rattle.fab_model.proofs.Parts.{get_or-set}
use Rattle.fab_laws.specs.Members.{Never}
use Rattle.fab_laws.specs.Programs.{Deed, Makes, Counts, Head, Tail, Draw, Opening, Peer, program}
use Rattle.fab_laws.specs.Moments.{LeadTo}
use Rattle.fab_laws.specs.Completed.{Accepted, Receives, Sends, accepted_by, accepts, begun, keeping_books, operations_of}
use Rattle.fab_base.specs.Replies.{is_reply}
use Rattle.fab_base.proofs.Lists.{all_the_same}
use Rattle.fab_laws.specs.StreamLaws.{TakenIsPosted, asks, posted_for, whole_from}
use Rattle.fab_laws.proofs.Memory.{remembered_keeps}
use Rattle.fab_laws.proofs.Stepping.{LineIs, StepIs, at_opening, step_is}
use Rattle.fab_laws.proofs.fences.Kept.{call_kept, draw_kept, head_tx, sent_kept, tail_kept}
use Rattle.fab_laws.proofs.fences.Out.{KeptAtStart, accepting_keeps, behind, held_within, out_keeps}
use Rattle.fab_laws.proofs.fences.Hold.{Known, transmit_is}
use Rattle.fab_laws.proofs.replies.Stray.{AllOwed, all_owed, turn_owed}
use Rattle.fab_laws.proofs.streams.Taken.{taken_is_first}

-- without replies
abbrev pub asked : List Item → List Item
asked items = filter asks items

abbrev pub items : List Held → List Item
items held = map (λ (h : Held). h.item) held

pub record Posted (n : ℕ) (past : List Accepted) (tx : Transmitting) : Type 0 where
  pub accepted_count : length tx.accepted ≡ n
  pub held_count : length tx.held ≡ n
  pub all : (t : ℕ) → asked (accepted_for tx t) ++ asked (items (held_for tx t)) ≡ posted_for t past

dropped : (xs : List Item) (r : Item) → asks r ≡ false → asked (xs ++ r ∷ []) ≡ asked xs
dropped xs r none = filter-append asks xs (r ∷ []) ∙ rw none (append-nil (asked xs))

joined : (xs : List Item) (r : Item) → asks r ≡ true → asked (xs ++ r ∷ []) ≡ asked xs ++ r ∷ []
joined xs r one = filter-append asks xs (r ∷ []) ∙ rw one refl

module _ (n : ℕ) (past : List Accepted) where
  abbrev Keeps : Transmitting → Type 0
  Keeps tx = Posted n past tx

  replies : (t : ℕ) (r : Item) (tx : Transmitting) → is_reply r.head.kind ≡ true → length r.bytes ≡ r.head.total → Keeps tx → Keeps (joining t r tx)
  replies t r tx reply sized o = record {
    accepted_count = length-set tx.accepted t _ ∙ o.accepted_count;
    held_count = o.held_count;
    all = λ q. ap (λ xs. xs ++ asked (items (held_for tx q))) (same q) ∙ o.all q;
  }
    where
      same : (q : ℕ) → asked (accepted_for (joining t r tx) q) ≡ asked (accepted_for tx q)
      same q = elim (get_or-set tx.accepted t q (accepted_for tx t ++ r ∷ []) []) [
        | inl kept ↦ ap asked kept
        | inr now ↦ ap asked now.1 ∙ dropped (accepted_for tx t) r (ap not reply) ∙ ap (λ k. asked (accepted_for tx k)) now.0
      ]

  ends : (sent : List ℕ) (test : Operation → Bool) (tx : Transmitting) → Keeps tx → Keeps (record { accepted = tx.accepted; sent = sent; live = remove_first test tx.live; held = tx.held; ops = tx.ops })
  ends sent test tx o = record { accepted_count = o.accepted_count; held_count = o.held_count; all = o.all }

  -- what goes out stands first among what is held
  start_kept : (t : ℕ) → KeptAtStart t Keeps
  start_kept t h rest tx first free o = record {
    accepted_count = length-set tx.accepted t _ ∙ o.accepted_count;
    held_count = length-set tx.held t rest ∙ o.held_count;
    all = λ q. elim (cases_eq t q) [
      | inl same ↦ subst (λ k. asked (get_or (set tx.accepted t (accepted_for tx t ++ h.item ∷ [])) k []) ++ asked (items (get_or (set tx.held t rest) k [])) ≡ posted_for k past) same here
      | inr differ ↦ (
          let x : get_or (set tx.accepted t (accepted_for tx t ++ h.item ∷ [])) q [] ≡ accepted_for tx q = elim (get_or-set tx.accepted t q (accepted_for tx t ++ h.item ∷ []) []) [ inl kept ↦ kept | inr now ↦ absurd (differ now.0) ] in
          let y : get_or (set tx.held t rest) q [] ≡ held_for tx q = elim (get_or-set tx.held t q rest []) [ inl kept ↦ kept | inr now ↦ absurd (differ now.0) ] in
          ap₂ (λ xs hs. asked xs ++ asked (items hs)) x y ∙ o.all q)
    ];
  }
    where
      here : asked (get_or (set tx.accepted t (accepted_for tx t ++ h.item ∷ [])) t []) ++ asked (items (get_or (set tx.held t rest) t [])) ≡ posted_for t past
      here =
          let within = held_within tx.held t h rest first in
          ap₂ (λ xs hs. asked xs ++ asked (items hs)) (get_or-set_same tx.accepted t (accepted_for tx t ++ h.item ∷ []) [] (omega (arith, within, o.accepted_count, o.held_count))) (get_or-set_same tx.held t rest [] within)
          ∙ ap (λ xs. xs ++ asked (items rest)) (filter-append asks (accepted_for tx t) (h.item ∷ []))
          ∙ append_assoc (asked (accepted_for tx t)) (asked (h.item ∷ [])) (asked (items rest))
          ∙ ap (λ xs. asked (accepted_for tx t) ++ xs) (sym (filter-append asks (h.item ∷ []) (items rest)))
          ∙ ap (λ hs. asked (accepted_for tx t) ++ asked (items hs)) (sym first) ∙ o.all t

  outs : (t : ℕ) (tx : Transmitting) → Keeps tx → Keeps (going_on t tx)
  outs t tx o = out_keeps t Keeps (start_kept t) tx (o.accepted_count ∙ sym o.held_count) o

-- ---- a call

-- an accepted operation stands behind those held for its peer
holds : (n : ℕ) (past : List Accepted) (tx : Transmitting) (t : ℕ) (h : Held) → t < n → asks h.item ≡ true → Posted n past tx → Posted n (Sends t h ∷ past) (behind t h tx)
holds n past tx t h lt one o = record {
  accepted_count = o.accepted_count;
  held_count = length-set tx.held t _ ∙ o.held_count;
  all = λ q. elim (cases_eq t q) [
    | inl same ↦ subst (λ k. asked (accepted_for tx k) ++ asked (items (get_or (set tx.held t (held_for tx t ++ h ∷ [])) k [])) ≡ posted_for k (Sends t h ∷ past)) same here
    | inr differ ↦ (
        let y : get_or (set tx.held t (held_for tx t ++ h ∷ [])) q [] ≡ held_for tx q = elim (get_or-set tx.held t q (held_for tx t ++ h ∷ []) []) [ inl kept ↦ kept | inr now ↦ absurd (differ now.0) ] in
        let f : (t == q) ≡ false = grind (arith, nat_tests, differ) in
        ap (λ hs. asked (accepted_for tx q) ++ asked (items hs)) y ∙ o.all q ∙ by_peer q (sym f))
  ];
}
  where
    by_peer : (q : ℕ) {b d : Bool} → b ≡ d → (let xs : List Item = elim b [ true ↦ posted_for q past ++ h.item ∷ [] | false ↦ posted_for q past ] in xs) ≡ (let xs : List Item = elim d [ true ↦ posted_for q past ++ h.item ∷ [] | false ↦ posted_for q past ] in xs)
    by_peer q e = ap (λ (b : Bool). let xs : List Item = elim b [ true ↦ posted_for q past ++ h.item ∷ [] | false ↦ posted_for q past ] in xs) e

    here : asked (accepted_for tx t) ++ asked (items (get_or (set tx.held t (held_for tx t ++ h ∷ [])) t [])) ≡ posted_for t (Sends t h ∷ past)
    here =
        let f : (t == t) ≡ true = grind (arith, nat_tests) in
        ap (λ hs. asked (accepted_for tx t) ++ asked (items hs)) (get_or-set_same tx.held t (held_for tx t ++ h ∷ []) [] (omega (arith, lt, o.held_count)))
        ∙ ap (λ xs. asked (accepted_for tx t) ++ asked xs) (map-append (λ (h : Held). h.item) (held_for tx t) (h ∷ []))
        ∙ ap (λ xs. asked (accepted_for tx t) ++ xs) (joined (items (held_for tx t)) h.item one)
        ∙ sym (append_assoc (asked (accepted_for tx t)) (asked (items (held_for tx t))) (h.item ∷ []))
        ∙ ap (λ xs. xs ++ h.item ∷ []) (o.all t) ∙ by_peer t (sym f)

module _ (n : ℕ) (past : List Accepted) (s : State) (posted : Posted n past s.tx) (at : Known n s) where
  abbrev After : Call → State → Type 0
  After c t = Posted n (accepted_by (Some c) s t ++ past) t.tx

  seen_as : (c : Call) (t : State) (b : Bool) → nat_lt s.calls t.calls ≡ b → Posted n ((let xs : List Accepted = elim b [ true ↦ begun c s t | false ↦ [] ] in xs) ++ past) t.tx → After c t
  seen_as c t b e o = subst (λ d. Posted n ((let xs : List Accepted = elim d [ true ↦ begun c s t | false ↦ [] ] in xs) ++ past) t.tx) (sym e) o

  receives : (call : ℕ) (tx : Transmitting) → Posted n past tx → Posted n (Receives call ∷ past) tx
  receives call tx o = record { accepted_count = o.accepted_count; held_count = o.held_count; all = o.all }

  begun_kept : (c : Call) (t : State) → ((o : Order) → c ≡ Transmit o → Never) → Posted n past t.tx → Posted n (begun c s t ++ past) t.tx
  begun_kept (Transmit order) t other o = elim (other order refl) [ ]
  begun_kept (Call.Post p) t other o = receives s.calls t.tx o
  begun_kept (Call.Look how source tag ignore ctx) t other o = receives s.calls t.tx o
  begun_kept (Call.TakeClaimed buf ctx) t other o = receives s.calls t.tx o
  begun_kept (Call.DropClaimed ctx) t other o = receives s.calls t.tx o
  begun_kept c t other o = o

  other_call : (c : Call) → ((o : Order) → c ≡ Transmit o → Never) → After c (do_call s c).1
  other_call c other =
      let t : State = (do_call s c).1 in
      let o : Posted n past t.tx = call_kept (Keeps n past) (replies n past) s c posted other in
      go t (nat_lt s.calls t.calls) refl o
    where
      go : (t : State) (b : Bool) → nat_lt s.calls t.calls ≡ b → Posted n past t.tx → After c t
      go t true e o = seen_as c t true e (begun_kept c t other o)
      go t false e o = seen_as c t false e o

  sends : (order : Order) (t : ℕ) → lookup s.av order.dest ≡ Some t → is_reply order.kind ≡ false → After (Transmit order) (transmit_to t s order)
  unfolding transmit_to
  sends order t peer kind =
      let h : Held = operation_of s order in
      let lt : t < n = at order.dest t peer in
      let new : Posted n (Sends t h ∷ past) (accepting t h s.tx) =
      accepting_keeps t (Keeps n (Sends t h ∷ past)) (start_kept n (Sends t h ∷ past) t) h s.tx (omega (arith, lt, posted.accepted_count)) (omega (arith, lt, posted.held_count)) (holds n past s.tx t h lt (ap not kind) posted) in
      seen_as (Transmit order) (transmit_to t s order) true (lt-ltb s.calls (s.calls + 1) (omega arith))
      (subst (λ (o : Option ℕ). Posted n ((let xs : List Accepted = elim o [ None ↦ [] | Some dest ↦ Sends dest h ∷ [] ] in xs) ++ past) (accepting t h s.tx)) (sym peer) new)

  transmit_call : (order : Order) → After (Transmit order) (do_call s (Transmit order)).1
  transmit_call order = elim (transmit_is s order) [
    | inl same ↦ subst (After (Transmit order)) (sym same) (seen_as (Transmit order) s false (le-ltb s.calls s.calls (omega arith)) posted)
    | inr (t, peer, kind, is) ↦ subst (After (Transmit order)) (sym is) (sends order t peer kind)
  ]

  call_posted : (c : Call) → After c (do_call s c).1
  call_posted (Transmit order) = transmit_call order
  call_posted c = other_call c (λ o e. absurd (cc (e)))

  line_posted : (call : Option Call) (t : State) → LineIs call s t → Posted n (accepted_by call s t ++ past) t.tx
  line_posted call t (inl (none, is)) = subst₂ (λ (x : Option Call) (u : State). Posted n (accepted_by x s u ++ past) u.tx) (sym none) (sym is) posted
  line_posted call t (inr (c, same, is)) = subst₂ (λ (x : Option Call) (u : State). Posted n (accepted_by x s u ++ past) u.tx) (sym same) (sym is) (call_posted c)

-- ---- a deed

module _ (n : ℕ) (v : View Item) (a b : Peer) (past : List Accepted) (posted : Posted n past a.state.tx) (at : Known n a.state) where
  to : (t : State) → b.state ≡ t → Posted n past t.tx → Posted n past b.state.tx
  to t is o = subst (λ (s : State). Posted n past s.tx) (sym is) o

  step_by : (x : Deed) → StepIs v a x b → Posted n (accepts a x b ++ past) b.state.tx
  step_by (Makes call) is = line_posted n past a.state posted at call b.state is
  step_by (Counts counters) is = to _ is posted
  step_by (Head source) (item, has, level, none, is) = to (do_head a.state source item.head) is (subst (Posted n past) (sym (head_tx a.state source item.head)) posted)
  step_by (Tail source) (item, has, odd, sent, is) = to (do_tail a.state source item.head item.bytes) is (tail_kept (Keeps n past) (replies n past) (ends n past) (outs n past) a.state source item.head item.bytes posted)
  step_by (Deed.Sent t) (less, is) = to _ is (sent_kept (Keeps n past) (replies n past) (ends n past) (outs n past) a.state t posted)
  step_by Draw (due, is) = to (do_draw a.state) is (draw_kept (Keeps n past) (replies n past) a.state posted)
  step_by Deed.Read is = to _ is posted

fresh_posted : (conf : Conf) → Posted conf.peers [] (fresh conf).tx
fresh_posted conf = record {
  accepted_count = length-replicate {A = List Item} conf.peers [];
  held_count = length-replicate {A = List Held} conf.peers [];
  all = λ t. ap₂ (λ xs hs. asked xs ++ asked (items hs)) (all_the_same {X = List Item} conf.peers t []) (all_the_same {X = List Held} conf.peers t []);
}

pub posted_at : (from : Opening) (turns : List (Turn Deed)) (states : List Peer) → LeadTo from turns states → (p : ℕ) (a : Peer) → slice_get states p ≡ Some a
    → Posted (length from.peers) (operations_of from.peers turns p).accepted a.state.tx
posted_at from turns states leads p a here = remembered_keeps keeping_books p (AllOwed (length from.peers)) (λ m ss x. Posted (length from.peers) m.accepted x.state.tx) (turn_owed (length from.peers))
    (λ ss m b c x good at ruled stood posted. step_by (length from.peers) (seen program ss p) b c m.accepted posted (good.owed p b at).known x (step_is (seen program ss p) b c x stood))
    (λ ss m q b c x good at differ ruled posted. posted)
    turns from.peers states (record { accepted = []; ended = [] }) (all_owed from [] from.peers refl)
    (λ x at. at_opening from (λ (s : State). Posted (length from.peers) [] s.tx) (λ conf av names. fresh_posted (record conf { peers = length from.peers })) p x at) leads a here

-- ---- the law

-- the first of what goes out to t is, without replies, the first of what was accepted for it
pub first_posted : (n t : ℕ) (past : List Accepted) (tx : Transmitting) (xs : List Item) → IsPrefixOf xs (accepted_for tx t) → Posted n past tx → IsPrefixOf (asked xs) (posted_for t past)
first_posted n t past tx xs first posted =
    let out : asked xs ++ asked first.0 ≡ asked (accepted_for tx t) = sym (filter-append asks xs first.0) ∙ ap asked first.1 in (
      asked first.0 ++ asked (items (held_for tx t)),
      sym (append_assoc (asked xs) (asked first.0) (asked (items (held_for tx t)))) ∙ ap (λ ys. ys ++ asked (items (held_for tx t))) out ∙ posted.all t,
    )

pub taken_is_posted : TakenIsPosted
taken_is_posted from turns states leads p a here source c at = first_posted (length from.peers) p (operations_of from.peers turns source).accepted c.state.tx (whole_from from.peers turns p source) (taken_is_first from turns states leads p a here source c at) (posted_at from turns states leads source c at)
