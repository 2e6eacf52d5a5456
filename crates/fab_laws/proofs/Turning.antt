-- Every step keeps the turns, so they are kept wherever turns lead.
use Rattle.std.proofs.Common.{◌≡◌, ◌≢◌, ◌<◌, ◌+◌, ℕ, Bool, true, false, ◌&&◌, List, [], ◌∷◌, ◌++◌, length, set, slice_get, Option, Some, None, ◌⊎◌, inl, inr, refl, sym, ◌∙◌, ap, subst, arith, append-nil}
use Rattle.std.specs.Prelude.{find, is_some, nat_lt, slice_index, ◌==◌}
use Rattle.std.specs.List.{list_all, list_any}
use Rattle.std.proofs.lemmas.Bool.{and_parts, cases_eq, eq-eqb, lt-ltb, ne_eqb}
use Rattle.std.proofs.lemmas.Bool.Decides.{nat_tests}
use Rattle.std.proofs.lemmas.List.{length-replicate, length-set}
use Rattle.std.proofs.lemmas.Option.{slice_get_within}
use Rattle.fab_base.specs.declared.entries.Taken.{Taken}
use Rattle.fab_base.specs.declared.faults.Fault.{Fault}
use Rattle.fab_base.specs.declared.items.Item.{Item}
use Rattle.fab_base.specs.declared.items.Want.{Want}
use Rattle.fab_base.specs.declared.operations.Arrival.{Arrival}
use Rattle.fab_base.specs.declared.operations.Coming.{Coming}
use Rattle.fab_base.specs.declared.operations.Coming.TheVariants.{Into, Keep}
use Rattle.fab_base.specs.declared.operations.Receive.{Receive}
use Rattle.fab_base.specs.declared.operations.Written.{Written}
use Rattle.fab_base.specs.declared.script.Conf.{Conf}
use Rattle.fab_model.specs.Arrivals.{keeping, made_whole, taker}
use Rattle.fab_model.specs.Calls.{Call, Transmit, Post, Look, TakeClaimed, DropClaimed, Cancel, CancelFirst, Insert, Remove, Reg, Close, Put, Show, Count, answer, do_call}
use Rattle.fab_model.specs.Complete.{filling}
use Rattle.fab_model.specs.Matching.{takes}
use Rattle.fab_base.specs.Kinds.{is_message}
use Rattle.fab_model.specs.Orders.{Leads, Turn, steps_of}
use Rattle.fab_model.specs.Receiving.{Posting, draws, give, joining_posted, post, post_fault, receive_of, taken_by, without_first}
use Rattle.fab_model.specs.State.{Receiving, State, called, coming_from, raise, with_rx}
use Rattle.fab_model.specs.Views.{View, rule, seen}
use Rattle.fab_model.proofs.Orders.{steps_of_other, steps_of_own}
use Rattle.fab_model.proofs.Parts.{prefix_get, some_same}
use Rattle.fab_model.proofs.Passes.{tail_passes}
use Rattle.fab_model.proofs.Unchanged.{single_filling}
use Rattle.fab_laws.specs.MessageLaws.{asked_by, asked_of, asks_for, keeping_asked}
use Rattle.fab_laws.specs.Moments.{Note, noted, remembered}
use Rattle.fab_laws.specs.Programs.{Counts, Deed, Draw, Head, Makes, Opening, Peer, Tail, program, starting}
use Rattle.fab_laws.specs.StreamLaws.{arrived_from, arriving, taking, whole_from}
use Rattle.fab_laws.proofs.Levels.{all_the_same}
use Rattle.fab_laws.proofs.Lists.{Always, Each, always, found_in, in_back, last_get, never, raise_here}
use Rattle.fab_laws.proofs.Memory.{remembered_keeps}
use Rattle.fab_laws.proofs.Stepping.{StepIs, at_opening, step_is}
use Rattle.fab_laws.proofs.matching.Watch as Watch
use Rattle.fab_laws.proofs.receiving.Acts.{Act, Arrives, Cancels, Claims, Closes, Discards, Draws, Drops, Ends, Fills, Gets, Idle, Joins, Passes, Posts, Rests, Seats, Takes, Waits, Plain, act, entries_for, entry_for, freed, given, given_to, is_head, is_into, leaving, let_out, pass, seat, wait, whole}
use Rattle.fab_laws.proofs.streams.Arrived.{whole_has_arrived}
use Rattle.fab_laws.proofs.streams.Entries.{both, remembered_both}
use Rattle.fab_laws.specs.InTurn.{AllToldInTurn, IsChosen, is_plain, leaves_all}
use Rattle.fab_laws.proofs.Words.{Level, Turns, not_both}
use Rattle.fab_laws.proofs.Calls.{gets_keep, posts_keep}
use Rattle.fab_laws.proofs.Arrivals.{plain_entries}
use Rattle.fab_laws.proofs.Own.{closes_own, fills_own, joins_own, passes_own, seats_own, waits_own}
use Rattle.fab_laws.proofs.Elsewhere.{closes_else, fills_else, joins_else, passes_else, seats_else, waits_else}

-- what is whole is what arrived, place by place
abbrev Agree : List Item → List Item → Type 0
Agree A W = (k : ℕ) (x y : Item) → slice_get A k ≡ Some x → slice_get W k ≡ Some y → x ≡ y

-- ---- a receive that is asked for

data Way (s : State) (q : Posting) (t : State) : Type 0 where
  Refuses : t ≡ s → Way s q t
  JoinsPosted : taken_by (receive_of s q) s ≡ None → t.calls ≡ s.calls + 1 → t.rx ≡ joining_posted (receive_of s q) s.rx → t.cq.written ≡ s.cq.written → Way s q t
  IsGiven : (y : Arrival) → taken_by (receive_of s q) s ≡ Some y → t.calls ≡ s.calls + 1 → t.rx ≡ given (receive_of s q) 0 y (without_first (receive_of s q).want s.rx) → t.cq.written ≡ s.cq.written ++ entries_for (receive_of s q) 0 y → Way s q t

post_way : (s : State) (q : Posting) → Way s q (post s q)
unfolding post
post_way s q = go (taken_by (receive_of s q) s) refl
  where
    go : (o : Option Arrival) → taken_by (receive_of s q) s ≡ o → Way s q (let u : State = elim o [
      | None ↦ called (with_rx (joining_posted (receive_of s q) s.rx) s)
      | Some y ↦ give (receive_of s q) 0 y (called (with_rx (without_first (receive_of s q).want s.rx) s))
    ] in u)
    go None e = JoinsPosted e refl refl refl
    go (Some y) e =
        let u : State = called (with_rx (without_first (receive_of s q).want s.rx) s) in
        let g = given_to (receive_of s q) 0 y u in
        IsGiven y e ((Watch.gives (receive_of s q) 0 y u).quiet.calls) g.0 g.1

call_way : (s : State) (q : Posting) → Way s q (do_call s (Post q)).1
unfolding do_call
call_way s q = go (post_fault s q)
  where
    go : (fault : Option Fault) → Way s q (answer fault s (post s q)).1
    go None = post_way s q
    go (Some f) = Refuses refl

-- ---- one deed

single_leaving : (r : Receive) (rx : Receiving) → r.least ≡ None → leaving r rx ≡ None
single_leaving r rx single = rw (single) refl

module _ (p : ℕ) (want : Want) (mine : Receive → Bool) (counts : Taken → Bool) (v : View Item) (a b : Peer) (A W : List Item) where
  abbrev Next : Deed → List Receive → Type 0
  Next x asked = Turns p want mine counts (arriving p v a x b A) (taking p v a x b W) asked b.state.rx b.state.cq.written

  head_own : (s : ℕ) (item : Item) → slice_get (v.ready s) (slice_index a.state.rx.heads s) ≡ Some item → s ≡ p → arriving p v a (Head s) b A ≡ A ++ item ∷ []
  head_own s item has same =
      ap (λ (m : Bool). let xs : List Item = elim m [ true ↦ elim (slice_get (v.ready s) (slice_index a.state.rx.heads s)) [ None ↦ A | Some x ↦ A ++ x ∷ [] ] | false ↦ A ] in xs) (eq-eqb s p same)
      ∙ ap (λ (o : Option Item). let xs : List Item = elim o [ None ↦ A | Some x ↦ A ++ x ∷ [] ] in xs) has

  head_other : (s : ℕ) → (s ≡ p → ⊥) → arriving p v a (Head s) b A ≡ A
  head_other s differ = ap (λ (m : Bool). let xs : List Item = elim m [ true ↦ elim (slice_get (v.ready s) (slice_index a.state.rx.heads s)) [ None ↦ A | Some x ↦ A ++ x ∷ [] ] | false ↦ A ] in xs) (ne_eqb s p differ)

  tail_own : (s : ℕ) (item : Item) → slice_get (v.ready s) (slice_index a.state.rx.tails s) ≡ Some item → s ≡ p → taking p v a (Tail s) b W ≡ W ++ item ∷ []
  tail_own s item has same =
      ap (λ (m : Bool). let xs : List Item = elim m [ true ↦ elim (slice_get (v.ready s) (slice_index a.state.rx.tails s)) [ None ↦ W | Some x ↦ W ++ x ∷ [] ] | false ↦ W ] in xs) (eq-eqb s p same)
      ∙ ap (λ (o : Option Item). let xs : List Item = elim o [ None ↦ W | Some x ↦ W ++ x ∷ [] ] in xs) has

  tail_other : (s : ℕ) → (s ≡ p → ⊥) → taking p v a (Tail s) b W ≡ W
  tail_other s differ = ap (λ (m : Bool). let xs : List Item = elim m [ true ↦ elim (slice_get (v.ready s) (slice_index a.state.rx.tails s)) [ None ↦ W | Some x ↦ W ++ x ∷ [] ] | false ↦ W ] in xs) (ne_eqb s p differ)

  arriving_none : (x : Deed) → is_head x ≡ false → arriving p v a x b A ≡ A
  arriving_none (Makes call) e = refl
  arriving_none (Counts counters) e = refl
  arriving_none (Head s) e = absurd (cc (e))
  arriving_none (Tail s) e = refl
  arriving_none (Deed.Sent t) e = refl
  arriving_none Draw e = refl
  arriving_none Deed.Read e = refl

  taking_none : (x : Deed) → ((s : ℕ) → x ≡ Tail s → s ≡ p → ⊥) → taking p v a x b W ≡ W
  taking_none (Makes call) e = refl
  taking_none (Counts counters) e = refl
  taking_none (Head s) e = refl
  taking_none (Tail s) e = tail_other s (λ same. e s refl same)
  taking_none (Deed.Sent t) e = refl
  taking_none Draw e = refl
  taking_none Deed.Read e = refl

  -- ---- the memories only grow

  arriving_more : (x : Deed) → (rest : List Item) × (arriving p v a x b A ≡ A ++ rest)
  arriving_more (Makes call) = ([], sym (append-nil A))
  arriving_more (Counts counters) = ([], sym (append-nil A))
  arriving_more (Head s) = go (s == p) (slice_get (v.ready s) (slice_index a.state.rx.heads s))
    where
      go : (m : Bool) (o : Option Item) → (rest : List Item) × ((let xs : List Item = elim m [ true ↦ elim o [ None ↦ A | Some x ↦ A ++ x ∷ [] ] | false ↦ A ] in xs) ≡ A ++ rest)
      go true None = ([], sym (append-nil A))
      go true (Some x) = (x ∷ [], refl)
      go false o = ([], sym (append-nil A))
  arriving_more (Tail s) = ([], sym (append-nil A))
  arriving_more (Deed.Sent t) = ([], sym (append-nil A))
  arriving_more Draw = ([], sym (append-nil A))
  arriving_more Deed.Read = ([], sym (append-nil A))

  taking_more : (x : Deed) → (rest : List Item) × (taking p v a x b W ≡ W ++ rest)
  taking_more (Makes call) = ([], sym (append-nil W))
  taking_more (Counts counters) = ([], sym (append-nil W))
  taking_more (Head s) = ([], sym (append-nil W))
  taking_more (Tail s) = go (s == p) (slice_get (v.ready s) (slice_index a.state.rx.tails s))
    where
      go : (m : Bool) (o : Option Item) → (rest : List Item) × ((let xs : List Item = elim m [ true ↦ elim o [ None ↦ W | Some x ↦ W ++ x ∷ [] ] | false ↦ W ] in xs) ≡ W ++ rest)
      go true None = ([], sym (append-nil W))
      go true (Some x) = (x ∷ [], refl)
      go false o = ([], sym (append-nil W))
  taking_more (Deed.Sent t) = ([], sym (append-nil W))
  taking_more Draw = ([], sym (append-nil W))
  taking_more Deed.Read = ([], sym (append-nil W))

  agreed : (x : Deed) → Agree (arriving p v a x b A) (taking p v a x b W) → Agree A W
  agreed x agree k i j e f =
      let m = arriving_more x in
      let n = taking_more x in
      agree k i j (ap (λ (xs : List Item). slice_get xs k) m.1 ∙ prefix_get A m.0 k i e) (ap (λ (xs : List Item). slice_get xs k) n.1 ∙ prefix_get W n.0 k j f)

  module _ (asked : List Receive) (turns : Turns p want mine counts A W asked a.state.rx a.state.cq.written) (chosen : IsChosen p want mine counts asked) where
    shift : (A₁ A₂ W₁ W₂ : List Item) (rx₁ rx₂ : Receiving) (ws₁ ws₂ : List Written) → A₁ ≡ A₂ → W₁ ≡ W₂ → rx₁ ≡ rx₂ → ws₁ ≡ ws₂ → Turns p want mine counts A₂ W₂ asked rx₂ ws₂ → Turns p want mine counts A₁ W₁ asked rx₁ ws₁
    shift A₁ A₂ W₁ W₂ rx₁ rx₂ ws₁ ws₂ e f g h t =
        subst (λ (xs : List Item). Turns p want mine counts xs W₁ asked rx₁ ws₁) (sym e) (subst (λ (xs : List Item). Turns p want mine counts A₂ xs asked rx₁ ws₁) (sym f)
        (subst (λ (y : Receiving). Turns p want mine counts A₂ W₂ asked y ws₁) (sym g) (subst (λ (ws : List Written). Turns p want mine counts A₂ W₂ asked rx₂ ws) (sym h) t)))

    idles : (x : Deed) → is_head x ≡ false → ((s : ℕ) → x ≡ Tail s → s ≡ p → ⊥) → Idle a.state b.state → Next x asked
    idles x no_head no_tail idle =
        shift _ A _ W _ a.state.rx _ (a.state.cq.written ++ idle.more) (arriving_none x no_head) (taking_none x no_tail) idle.rx idle.written
        (record {
          heads = turns.heads;
          tails = turns.tails;
          in_heads = turns.in_heads;
          in_tails = turns.in_tails;
          in_coming = turns.in_coming;
          posted = turns.posted;
          into = turns.into;
          tells = plain_entries counts chosen.messages a.state.cq.written idle.more idle.plain ∙ turns.tells;
          phase = turns.phase;
        })

    not_looks : {X : Type 0} (x y : Deed) → x ≡ y → is_plain x ≡ true → is_plain y ≡ false → X
    not_looks x y is plain out = not_both (is_plain y) (sym (ap is_plain is) ∙ plain) out

    cancel_out : (c : Call) → (c ≡ CancelFirst) ⊎ ((ctx : ℕ) × (c ≡ Cancel ctx)) → leaves_all c ≡ false
    cancel_out c (inl e) = ap leaves_all e
    cancel_out c (inr (ctx, e)) = ap leaves_all e

    -- ---- the item of a source

    seats : (s : ℕ) (item : Item) (r : Receive) → Arrives v a.state s item → taker s item.head a.state.rx ≡ Some r → b.state.rx ≡ seat s item.head r a.state.rx → b.state.cq.written ≡ a.state.cq.written → Next (Head s) asked
    seats s item r arrives found rx written = elim (cases_eq s p) [
      | inl same ↦ shift _ (A ++ item ∷ []) W W _ (seat p item.head r a.state.rx) _ a.state.cq.written (head_own s item arrives.at same) refl (rx ∙ ap (λ k. seat k item.head r a.state.rx) same) written
          (seats_own p want mine counts A W asked a.state.rx a.state.cq.written turns chosen item (subst (λ k. slice_index a.state.rx.heads k ≡ slice_index a.state.rx.tails k) same arrives.level) r (subst (λ k. taker k item.head a.state.rx ≡ Some r) same found))
      | inr differ ↦ shift _ A W W _ (seat s item.head r a.state.rx) _ a.state.cq.written (head_other s differ) refl rx written
          (seats_else p want mine counts A W asked a.state.rx a.state.cq.written turns chosen s item (λ e. absurd (differ e)) r found)
    ]

    waits : (s : ℕ) (item : Item) → Arrives v a.state s item → taker s item.head a.state.rx ≡ None → b.state.rx ≡ wait s item.head a.state.rx → b.state.cq.written ≡ a.state.cq.written → Next (Head s) asked
    waits s item arrives none rx written = elim (cases_eq s p) [
      | inl same ↦ shift _ (A ++ item ∷ []) W W _ (wait p item.head a.state.rx) _ a.state.cq.written (head_own s item arrives.at same) refl (rx ∙ ap (λ k. wait k item.head a.state.rx) same) written
          (waits_own p want mine counts A W asked a.state.rx a.state.cq.written turns chosen item (subst (λ k. slice_index a.state.rx.heads k ≡ slice_index a.state.rx.tails k) same arrives.level) (subst (λ k. taker k item.head a.state.rx ≡ None) same none))
      | inr differ ↦ shift _ A W W _ (wait s item.head a.state.rx) _ a.state.cq.written (head_other s differ) refl rx written
          (waits_else p want mine counts A W asked a.state.rx a.state.cq.written turns chosen s item (λ e. absurd (differ e)))
    ]

    passes : (s : ℕ) (item : Item) (c : Coming) → Arrives v a.state s item → is_message item.head.kind ≡ false → is_into (Some c) ≡ false → b.state.rx ≡ pass s c a.state.rx → b.state.cq.written ≡ a.state.cq.written → Next (Head s) asked
    passes s item c arrives other no_into rx written = elim (cases_eq s p) [
      | inl same ↦ shift _ (A ++ item ∷ []) W W _ (pass p c a.state.rx) _ a.state.cq.written (head_own s item arrives.at same) refl (rx ∙ ap (λ k. pass k c a.state.rx) same) written
          (passes_own p want mine counts A W asked a.state.rx a.state.cq.written turns chosen item (subst (λ k. slice_index a.state.rx.heads k ≡ slice_index a.state.rx.tails k) same arrives.level) other c no_into)
      | inr differ ↦ shift _ A W W _ (pass s c a.state.rx) _ a.state.cq.written (head_other s differ) refl rx written
          (passes_else p want mine counts A W asked a.state.rx a.state.cq.written turns chosen s item (λ e. absurd (differ e)) c no_into)
    ]

    module _ (s : ℕ) (item : Item) (ends : Ends v a.state s item) (agree : Agree A (taking p v a (Tail s) b W)) where
      its_odd : s ≡ p → slice_index a.state.rx.heads p ≡ slice_index a.state.rx.tails p + 1
      its_odd same = subst (λ k. slice_index a.state.rx.heads k ≡ slice_index a.state.rx.tails k + 1) same ends.odd

      its_item : s ≡ p → (x : Item) → A ≡ W ++ x ∷ [] → x ≡ item
      its_item same x e = agree (length W) x item (ap (λ (xs : List Item). slice_get xs (length W)) e ∙ last_get W x) (ap (λ (xs : List Item). slice_get xs (length W)) (tail_own s item ends.at same) ∙ last_get W item)

      fills : (r : Receive) (place : ℕ) → coming_from a.state.rx s ≡ Some (Into r place) → (mid : Receiving) → mid ≡ filling r place item.bytes (whole s a.state.rx) → b.state.rx ≡ let_out (leaving r mid) mid
          → b.state.cq.written ≡ (a.state.cq.written ++ entry_for r place s item.head item.bytes ∷ []) ++ freed (leaving r mid) → Next (Tail s) asked
      fills r place from mid is_mid rx written =
          let its = turns.into s r place from in
          let single = chosen.single r its.0 in
          let none = single_leaving r mid single in
          let now : b.state.rx ≡ whole s a.state.rx = rx ∙ ap (λ (o : Option Receive). let_out o mid) none ∙ is_mid ∙ single_filling r place item.bytes (whole s a.state.rx) single in
          let ws : b.state.cq.written ≡ a.state.cq.written ++ entry_for r 0 s item.head item.bytes ∷ [] =
          written ∙ ap (λ (o : Option Receive). (a.state.cq.written ++ entry_for r place s item.head item.bytes ∷ []) ++ freed o) none ∙ append-nil (a.state.cq.written ++ entry_for r place s item.head item.bytes ∷ [])
          ∙ ap (λ k. a.state.cq.written ++ entry_for r k s item.head item.bytes ∷ []) its.1 in
          elim (cases_eq s p) [
            | inl same ↦ shift A A _ (W ++ item ∷ []) _ (whole p a.state.rx) _ (a.state.cq.written ++ entry_for r 0 p item.head item.bytes ∷ []) refl (tail_own s item ends.at same) (now ∙ ap (λ k. whole k a.state.rx) same) (ws ∙ ap (λ k. a.state.cq.written ++ entry_for r 0 k item.head item.bytes ∷ []) same)
                (fills_own p want mine counts A W asked a.state.rx a.state.cq.written turns chosen item (its_odd same) (its_item same) r place (ap (coming_from a.state.rx) (sym same) ∙ from))
            | inr differ ↦ shift A A _ W _ (whole s a.state.rx) _ (a.state.cq.written ++ entry_for r 0 s item.head item.bytes ∷ []) refl (tail_other s differ) now ws
                (fills_else p want mine counts A W asked a.state.rx a.state.cq.written turns chosen s item (λ e. absurd (differ e)) r place from)
          ]

      joins : coming_from a.state.rx s ≡ Some Keep → b.state.rx ≡ keeping s item.bytes (whole s a.state.rx) → b.state.cq.written ≡ a.state.cq.written → Next (Tail s) asked
      joins from rx written = elim (cases_eq s p) [
        | inl same ↦ shift A A _ (W ++ item ∷ []) _ (keeping p item.bytes (whole p a.state.rx)) _ a.state.cq.written refl (tail_own s item ends.at same) (rx ∙ ap (λ k. keeping k item.bytes (whole k a.state.rx)) same) written
            (joins_own p want mine counts A W asked a.state.rx a.state.cq.written turns chosen item (its_odd same) (its_item same) (ap (coming_from a.state.rx) (sym same) ∙ from))
        | inr differ ↦ shift A A _ W _ (keeping s item.bytes (whole s a.state.rx)) _ a.state.cq.written refl (tail_other s differ) rx written
            (joins_else p want mine counts A W asked a.state.rx a.state.cq.written turns chosen s item (λ e. absurd (differ e)))
      ]

      closes : (more : List Written) → is_into (coming_from a.state.rx s) ≡ false → coming_from a.state.rx s ≢ Some Keep → b.state.rx ≡ whole s a.state.rx → b.state.cq.written ≡ a.state.cq.written ++ more → Each Plain more → Next (Tail s) asked
      closes more no_into no_keep rx written plain = elim (cases_eq s p) [
        | inl same ↦ shift A A _ (W ++ item ∷ []) _ (whole p a.state.rx) _ (a.state.cq.written ++ more) refl (tail_own s item ends.at same) (rx ∙ ap (λ k. whole k a.state.rx) same) written
            (closes_own p want mine counts A W asked a.state.rx a.state.cq.written turns chosen item (its_odd same) (its_item same) (ap (λ k. is_into (coming_from a.state.rx k)) (sym same) ∙ no_into) (λ e. no_keep (ap (coming_from a.state.rx) same ∙ e)) more plain)
        | inr differ ↦ shift A A _ W _ (whole s a.state.rx) _ (a.state.cq.written ++ more) refl (tail_other s differ) rx written
            (closes_else p want mine counts A W asked a.state.rx a.state.cq.written turns chosen s item (λ e. absurd (differ e)) more plain)
      ]

    -- a receive of one message draws none
    no_draw : {X : Type 0} (r : Receive) → find (draws a.state.rx.unexpected) a.state.rx.posted ≡ Some r → X
    no_draw r found =
        let t = found_in (draws a.state.rx.unexpected) a.state.rx.posted r found in
        let many : is_some r.least ≡ true = (and_parts (is_some r.least) (list_any (takes r.want) a.state.rx.unexpected) t.1).0 in
        let e : true ≡ false = sym many ∙ ap is_some (chosen.single r (turns.posted r t.0).0) in
        absurd (cc (e))

    by_act : (x : Deed) → is_plain x ≡ true → ((s : ℕ) → x ≡ Tail s → s ≡ p → Idle a.state b.state → ⊥) → ((q : Posting) → x ≡ Makes (Some (Post q)) → ⊥) → Agree A (taking p v a x b W) → Act v a.state x b.state → Next x asked
    by_act x plain no_rest no_post agree (Rests no_head idle) = idles x no_head (λ s is same. no_rest s is same idle) idle
    by_act x plain no_rest no_post agree (Posts q is calls rx written) = absurd (no_post q is)
    by_act x plain no_rest no_post agree (Gets q y is calls single found rx written) = absurd (no_post q is)
    by_act x plain no_rest no_post agree (Claims source tag ignore ctx y w is calls found rx written dull) = not_looks x _ is plain refl
    by_act x plain no_rest no_post agree (Discards source tag ignore ctx y w is calls found rx written dull) = not_looks x _ is plain refl
    by_act x plain no_rest no_post agree (Takes buf ctx y is calls found rx written) = not_looks x _ is plain refl
    by_act x plain no_rest no_post agree (Drops ctx y w is calls found rx written dull) = not_looks x _ is plain refl
    by_act x plain no_rest no_post agree (Cancels c test r is which calls found rx written) = not_looks x (Makes (Some c)) is plain (cancel_out c which)
    by_act x plain no_rest no_post agree (Seats s item r is arrives message found rx written) = subst (λ d. Next d asked) (sym is) (seats s item r arrives found rx written)
    by_act x plain no_rest no_post agree (Waits s item is arrives message none rx written) = subst (λ d. Next d asked) (sym is) (waits s item arrives none rx written)
    by_act x plain no_rest no_post agree (Passes s item c is arrives other no_into rx written) = subst (λ d. Next d asked) (sym is) (passes s item c arrives other no_into rx written)
    by_act x plain no_rest no_post agree (Draws r y is found first mid is_mid rx written) = no_draw r found
    by_act x plain no_rest no_post agree (Fills s item r place is ends from mid is_mid rx written) = subst (λ d. Next d asked) (sym is) (fills s item ends (subst (λ d. Agree A (taking p v a d b W)) is agree) r place from mid is_mid rx written)
    by_act x plain no_rest no_post agree (Joins s item is ends from rx written) = subst (λ d. Next d asked) (sym is) (joins s item ends (subst (λ d. Agree A (taking p v a d b W)) is agree) from rx written)
    by_act x plain no_rest no_post agree (Closes s item more is ends no_into no_keep rx written dull) = subst (λ d. Next d asked) (sym is) (closes s item ends (subst (λ d. Agree A (taking p v a d b W)) is agree) more no_into no_keep rx written dull)

  -- ---- every deed

  module _ (asked : List Receive) (turns : Turns p want mine counts A W asked a.state.rx a.state.cq.written) where
    posts_next : (q : Posting) → IsChosen p want mine counts (asked_by a (Makes (Some (Post q))) b ++ asked) → Way a.state q b.state → Turns p want mine counts A W (asked_by a (Makes (Some (Post q))) b ++ asked) b.state.rx b.state.cq.written
    posts_next q chosen way = go way
      where
        none_asked : b.state ≡ a.state → asked_by a (Makes (Some (Post q))) b ≡ []
        none_asked e = ap (λ (t : Bool). let xs : List Receive = elim t [ true ↦ receive_of a.state q ∷ [] | false ↦ [] ] in xs) (ap (λ (u : State). nat_lt a.state.calls u.calls) e ∙ not_less a.state.calls)
          where
            not_less : (n : ℕ) → nat_lt n n ≡ false
            not_less n = grind (arith, nat_tests)

        one_asked : b.state.calls ≡ a.state.calls + 1 → asked_by a (Makes (Some (Post q))) b ≡ receive_of a.state q ∷ []
        one_asked e = ap (λ (t : Bool). let xs : List Receive = elim t [ true ↦ receive_of a.state q ∷ [] | false ↦ [] ] in xs) (lt-ltb a.state.calls b.state.calls (omega (arith, e)))

        now_chosen : b.state.calls ≡ a.state.calls + 1 → IsChosen p want mine counts (receive_of a.state q ∷ asked)
        now_chosen e = subst (λ (xs : List Receive). IsChosen p want mine counts (xs ++ asked)) (one_asked e) chosen

        -- a receive of one message looks among those that wait
        looks_for : (o : Option Arrival) → q.least ≡ None → taken_by (receive_of a.state q) a.state ≡ o → find (takes (receive_of a.state q).want) a.state.rx.unexpected ≡ o
        looks_for o single e = sym (ap (λ (l : Option ℕ). elim l [ Some _ ↦ None | None ↦ find (takes (receive_of a.state q).want) a.state.rx.unexpected ]) single) ∙ e

        finish : (new : List Receive) (rx : Receiving) (ws : List Written) → asked_by a (Makes (Some (Post q))) b ≡ new → b.state.rx ≡ rx → b.state.cq.written ≡ ws → Turns p want mine counts A W (new ++ asked) rx ws → Turns p want mine counts A W (asked_by a (Makes (Some (Post q))) b ++ asked) b.state.rx b.state.cq.written
        finish new rx ws e f g t = subst (λ (xs : List Receive). Turns p want mine counts A W (xs ++ asked) b.state.rx b.state.cq.written) (sym e) (subst (λ (y : Receiving). Turns p want mine counts A W (new ++ asked) y b.state.cq.written) (sym f) (subst (λ (zs : List Written). Turns p want mine counts A W (new ++ asked) rx zs) (sym g) t))

        go : Way a.state q b.state → Turns p want mine counts A W (asked_by a (Makes (Some (Post q))) b ++ asked) b.state.rx b.state.cq.written
        go (Refuses e) = finish [] a.state.rx a.state.cq.written (none_asked e) (ap (λ (u : State). u.rx) e) (ap (λ (u : State). u.cq.written) e) turns
        go (JoinsPosted none calls rx written) =
            let c = now_chosen calls in
            finish (receive_of a.state q ∷ []) (joining_posted (receive_of a.state q) a.state.rx) a.state.cq.written (one_asked calls) rx written
            (posts_keep p want mine counts A W asked a.state.rx a.state.cq.written turns (receive_of a.state q) refl c (looks_for None (c.single (receive_of a.state q) (inl refl)) none))
        go (IsGiven y found calls rx written) =
            let c = now_chosen calls in
            finish (receive_of a.state q ∷ []) (given (receive_of a.state q) 0 y (without_first (receive_of a.state q).want a.state.rx)) (a.state.cq.written ++ entries_for (receive_of a.state q) 0 y) (one_asked calls) rx written
            (gets_keep p want mine counts A W asked a.state.rx a.state.cq.written turns (receive_of a.state q) refl c y (looks_for (Some y) (c.single (receive_of a.state q) (inl refl)) found))

    -- other calls ask for none
    asks_none : (c : Call) → leaves_all c ≡ true → ((q : Posting) → c ≡ Post q → ⊥) → asks_for c a.state ≡ []
    asks_none (Transmit order) keeps other = refl
    asks_none (Post q) keeps other = absurd (other q refl)
    asks_none (Look how source tag ignore ctx) keeps other = refl
    asks_none (TakeClaimed buf ctx) keeps other = absurd (cc (keeps))
    asks_none (DropClaimed ctx) keeps other = refl
    asks_none (Cancel ctx) keeps other = refl
    asks_none CancelFirst keeps other = refl
    asks_none (Insert name) keeps other = refl
    asks_none (Remove index) keeps other = refl
    asks_none (Reg key access bytes) keeps other = refl
    asks_none (Close key) keeps other = refl
    asks_none (Put key at bytes) keeps other = refl
    asks_none (Show key) keeps other = refl
    asks_none (Count class) keeps other = refl

    none_by : (c : Call) → leaves_all c ≡ true → ((q : Posting) → c ≡ Post q → ⊥) → asked_by a (Makes (Some c)) b ≡ []
    none_by c keeps other = ap (λ (xs : List Receive). let ys : List Receive = elim (nat_lt a.state.calls b.state.calls) [ true ↦ xs | false ↦ [] ] in ys) (asks_none c keeps other) ∙ go (nat_lt a.state.calls b.state.calls)
      where
        go : (t : Bool) → (let ys : List Receive = elim t [ true ↦ [] | false ↦ [] ] in ys) ≡ []
        go true = refl
        go false = refl

    -- where the deed asks for no receive
    quietly : (x : Deed) → program.step v a x ≡ Some b → is_plain x ≡ true → asked_by a x b ≡ [] → ((s : ℕ) → x ≡ Tail s → s ≡ p → Idle a.state b.state → ⊥) → ((q : Posting) → x ≡ Makes (Some (Post q)) → ⊥)
        → IsChosen p want mine counts (asked_by a x b ++ asked) → Agree A (taking p v a x b W) → Next x (asked_by a x b ++ asked)
    quietly x e plain none no_rest no_post chosen agree =
        subst (λ (xs : List Receive). Next x (xs ++ asked)) (sym none) (by_act asked turns (subst (λ (xs : List Receive). IsChosen p want mine counts (xs ++ asked)) none chosen) x plain no_rest no_post agree (act v a b x e))

    -- a Tail raises what is whole
    never_rests : (s : ℕ) → StepIs v a (Tail s) b → s ≡ p → Idle a.state b.state → ⊥
    unfolding made_whole
    never_rests s (item, has, odd, sent, is) same idle =
        let now : b.state.rx.tails ≡ raise a.state.rx.tails s = ap (λ (u : State). u.rx.tails) is ∙ (tail_passes a.state s item.head item.bytes).tails in
        let up = raise_here a.state.rx.tails p turns.in_tails in
        let both : raise a.state.rx.tails p ≡ a.state.rx.tails = ap (raise a.state.rx.tails) (sym same) ∙ sym now ∙ ap (λ (y : Receiving). y.tails) idle.rx in
        let e : slice_index (raise a.state.rx.tails p) p ≡ slice_index a.state.rx.tails p = ap (λ (xs : List ℕ). slice_index xs p) both in
        omega (arith, up, e)

    by_call : (c : Call) → program.step v a (Makes (Some c)) ≡ Some b → leaves_all c ≡ true → ((q : Posting) → c ≡ Post q → ⊥) → IsChosen p want mine counts (asked_by a (Makes (Some c)) b ++ asked) → Agree A W → Next (Makes (Some c)) (asked_by a (Makes (Some c)) b ++ asked)
    by_call c e keeps other chosen agree = quietly (Makes (Some c)) e keeps (none_by c keeps other) (λ s is. absurd (cc (is))) (λ q is. other q (let f : c ≡ Post q = cc (is) in f)) chosen agree

    -- the state after a call
    posted_so : (q : Posting) → StepIs v a (Makes (Some (Post q))) b → Way a.state q b.state
    posted_so q (inl (none, is)) = absurd (cc (none))
    posted_so q (inr (c, asks, is)) = let same : Post q ≡ c = cc (asks) in subst (λ (u : State). Way a.state q u) (sym (is ∙ ap (λ (d : Call). (do_call a.state d).1) (sym same))) (call_way a.state q)

    pub turns_next : (x : Deed) → program.step v a x ≡ Some b → is_plain x ≡ true → IsChosen p want mine counts (asked_by a x b ++ asked) → Agree (arriving p v a x b A) (taking p v a x b W) → Next x (asked_by a x b ++ asked)
    turns_next (Makes None) e plain chosen agree = quietly (Makes None) e plain refl (λ s is. absurd (cc (is))) (λ q is. absurd (cc (is))) chosen agree
    turns_next (Makes (Some (Post q))) e plain chosen agree = posts_next q chosen (posted_so q (step_is v a b (Makes (Some (Post q))) e))
    turns_next (Makes (Some (Transmit order))) e plain chosen agree = by_call (Transmit order) e plain (λ q is. absurd (cc (is))) chosen agree
    turns_next (Makes (Some (Look how source tag ignore ctx))) e plain chosen agree = absurd (cc (plain))
    turns_next (Makes (Some (TakeClaimed buf ctx))) e plain chosen agree = absurd (cc (plain))
    turns_next (Makes (Some (DropClaimed ctx))) e plain chosen agree = absurd (cc (plain))
    turns_next (Makes (Some (Cancel ctx))) e plain chosen agree = absurd (cc (plain))
    turns_next (Makes (Some CancelFirst)) e plain chosen agree = absurd (cc (plain))
    turns_next (Makes (Some (Insert name))) e plain chosen agree = by_call (Insert name) e plain (λ q is. absurd (cc (is))) chosen agree
    turns_next (Makes (Some (Remove index))) e plain chosen agree = by_call (Remove index) e plain (λ q is. absurd (cc (is))) chosen agree
    turns_next (Makes (Some (Reg key access bytes))) e plain chosen agree = by_call (Reg key access bytes) e plain (λ q is. absurd (cc (is))) chosen agree
    turns_next (Makes (Some (Close key))) e plain chosen agree = by_call (Close key) e plain (λ q is. absurd (cc (is))) chosen agree
    turns_next (Makes (Some (Put key at bytes))) e plain chosen agree = by_call (Put key at bytes) e plain (λ q is. absurd (cc (is))) chosen agree
    turns_next (Makes (Some (Show key))) e plain chosen agree = by_call (Show key) e plain (λ q is. absurd (cc (is))) chosen agree
    turns_next (Makes (Some (Count class))) e plain chosen agree = by_call (Count class) e plain (λ q is. absurd (cc (is))) chosen agree
    turns_next (Counts counters) e plain chosen agree = quietly (Counts counters) e plain refl (λ s is. absurd (cc (is))) (λ q is. absurd (cc (is))) chosen agree
    turns_next (Head s) e plain chosen agree = quietly (Head s) e plain refl (λ t is. absurd (cc (is))) (λ q is. absurd (cc (is))) chosen (λ k i j f g. (let m = arriving_more (Head s) in agree k i j (ap (λ (xs : List Item). slice_get xs k) m.1 ∙ prefix_get A m.0 k i f) g))
    turns_next (Tail s) e plain chosen agree = quietly (Tail s) e plain refl (λ t is same. (let k : s ≡ t = cc (is) in never_rests s (step_is v a b (Tail s) e) (k ∙ same))) (λ q is. absurd (cc (is))) chosen agree
    turns_next (Deed.Sent t) e plain chosen agree = quietly (Deed.Sent t) e plain refl (λ s is. absurd (cc (is))) (λ q is. absurd (cc (is))) chosen agree
    turns_next Draw e plain chosen agree = quietly Draw e plain refl (λ s is. absurd (cc (is))) (λ q is. absurd (cc (is))) chosen agree
    turns_next Deed.Read e plain chosen agree = quietly Deed.Read e plain refl (λ s is. absurd (cc (is))) (λ q is. absurd (cc (is))) chosen agree

-- ---- the memories of a peer

-- whether all that it did so far is plain
keeping_plain : Note Bool
keeping_plain v a x b m = is_plain x && m

plain_kept : (p : ℕ) (turns : List (Turn Deed)) (states : List Peer) (m : Bool) → m ≡ true → list_all is_plain (steps_of p turns) ≡ true → remembered keeping_plain p turns states m ≡ true
unfolding keeping_plain
plain_kept p [] states m e all = e
plain_kept p (t ∷ turns) states m e all = go (rule program states t.peer t.step) (λ c k f. plain_kept p turns (set states t.peer c) k f rest)
  where
    both_plain : (t.peer ≡ p) ⊎ (t.peer ≡ p → ⊥) → (((t.peer == p) ≡ true → is_plain t.step ≡ true) × (list_all is_plain (steps_of p turns) ≡ true))
    both_plain (inl same) = let k = and_parts (is_plain t.step) (list_all is_plain (steps_of p turns)) (subst (λ (xs : List Deed). list_all is_plain xs ≡ true) (steps_of_own p t turns same) all) in (λ f. k.0, k.1)
    both_plain (inr differ) = (λ f. absurd (let g = ne_eqb t.peer p differ in let h : true ≡ false = sym f ∙ g in cc (h)), subst (λ (xs : List Deed). list_all is_plain xs ≡ true) (steps_of_other p t turns differ) all)

    parts : ((t.peer == p) ≡ true → is_plain t.step ≡ true) × (list_all is_plain (steps_of p turns) ≡ true)
    parts = both_plain (cases_eq t.peer p)

    rest : list_all is_plain (steps_of p turns) ≡ true
    rest = parts.1

    now : (k : Bool) → (t.peer == p) ≡ k → (o : Option Peer) → (let r : Bool = elim k [ true ↦ elim o [ None ↦ m | Some a ↦ is_plain t.step && m ] | false ↦ m ] in r) ≡ true
    now true f None = e
    now true f (Some a) = ap (λ (x : Bool). x && m) (parts.0 f) ∙ e
    now false f o = e

    go : (o : Option Peer) → ((c : Peer) (k : Bool) → k ≡ true → remembered keeping_plain p turns (set states t.peer c) k ≡ true) → (let r : Bool = elim o [ None ↦ m | Some c ↦ remembered keeping_plain p turns (set states t.peer c) (noted keeping_plain p states t c m) ] in r) ≡ true
    go None ih = e
    go (Some c) ih = ih c (noted keeping_plain p states t c m) (now (t.peer == p) refl (slice_get states p))

older_chosen : (p : ℕ) (want : Want) (mine : Receive → Bool) (counts : Taken → Bool) (new old : List Receive) → IsChosen p want mine counts (new ++ old) → IsChosen p want mine counts old
older_chosen p want mine counts new old c = record {
  directed = c.directed;
  single = λ f i. c.single f (in_back f new old i);
  wants = λ f i. c.wants f (in_back f new old i);
  apart = λ f s head i. c.apart f s head (in_back f new old i);
  messages = c.messages;
  own = λ f s head bytes i. c.own f s head bytes (in_back f new old i);
}

leads_count : (turns : List (Turn Deed)) (states last : List Peer) → Leads (rule program) states turns last → length last ≡ length states
leads_count [] states last leads = ap length (sym leads)
leads_count (t ∷ turns) states last (c, stood, rest) = leads_count turns (set states t.peer c) last rest ∙ length-set states t.peer c

-- ---- wherever turns lead

module _ (from : Opening) (p : ℕ) (source : ℕ) (within : source < length from.peers) (want : Want) (mine : Receive → Bool) (counts : Taken → Bool) where
  abbrev Memory : Type 0
  Memory = ((Bool × List Item) × List Item) × List Receive

  abbrev remembers : Note Memory
  remembers = both (both (both keeping_plain (arriving source)) (taking source)) keeping_asked

  Holds : Memory → State → Type 0
  Holds m s = m.0.0.0 ≡ true → IsChosen source want mine counts m.1 → Agree m.0.0.1 m.0.1 → Turns source want mine counts m.0.0.1 m.0.1 m.1 s.rx s.cq.written

  begun : (conf : Conf) (av : List (Option ℕ)) → length from.peers ≡ conf.peers → Holds (((true, []), []), []) (starting conf av)
  unfolding Holds
  begun conf av count plain chosen agree = record {
    heads = all_the_same conf.peers source 0;
    tails = all_the_same conf.peers source 0;
    in_heads = (let l = length-replicate {A = ℕ} conf.peers 0 in let w = within in omega (arith, l, w, count));
    in_tails = (let l = length-replicate {A = ℕ} conf.peers 0 in let w = within in omega (arith, l, w, count));
    in_coming = (let l = length-replicate {A = Option Coming} conf.peers None in let w = within in omega (arith, l, w, count));
    posted = λ r i. never i;
    into = λ q r place e. absurd (let f : None ≡ Some (Into r place) = sym (all_the_same {X = Option Coming} conf.peers q None) ∙ e in cc (f));
    tells = refl;
    phase = Level refl refl (record { posted = refl; waits = refl });
  }

  kept : (turns : List (Turn Deed)) (states : List Peer) → Leads (rule program) from.peers turns states → (a : Peer) → slice_get states p ≡ Some a → Holds (remembered remembers p turns from.peers (((true, []), []), [])) a.state
  unfolding Holds keeping_plain
  kept turns states leads = remembered_keeps remembers p (λ ss. Always) (λ m ss a. Holds m a.state) (λ ss q x b good ruled. always)
      (λ ss m a b x good at ruled stood holds plain chosen agree. (
      let v = seen program ss p in
      let parts = and_parts (is_plain x) m.0.0.0 plain in
      let before = holds parts.1 (older_chosen source want mine counts (asked_by a x b) m.1 chosen) (agreed source want mine counts v a b m.0.0.1 m.0.1 x agree) in
      turns_next source want mine counts v a b m.0.0.1 m.0.1 m.1 before x stood parts.0 chosen agree))
      (λ ss m q a b x good at differ ruled holds. holds)
      turns from.peers states (((true, []), []), []) always
      (λ a at. at_opening from (λ (s : State). Holds (((true, []), []), []) s) (λ conf av names. begun (record conf { peers = length from.peers }) av refl) p a at) leads

pub all_told_in_turn : AllToldInTurn
unfolding Holds
all_told_in_turn from turns states leads p a here source want mine counts c at plain chosen =
    let within : source < length from.peers = (let lt = slice_get_within states source c at in let l = leads_count turns from.peers states leads in omega (arith, lt, l)) in
    let same : remembered (both (both (both keeping_plain (arriving source)) (taking source)) keeping_asked) p turns from.peers (((true, []), []), []) ≡ (((remembered keeping_plain p turns from.peers true, arrived_from from.peers turns p source), whole_from from.peers turns p source), asked_of from.peers turns p) =
    remembered_both (both (both keeping_plain (arriving source)) (taking source)) keeping_asked p turns from.peers ((true, []), []) []
    ∙ ap (λ (k : (Bool × List Item) × List Item). (k, asked_of from.peers turns p)) (remembered_both (both keeping_plain (arriving source)) (taking source) p turns from.peers (true, []) []
    ∙ ap (λ (k : Bool × List Item). (k, whole_from from.peers turns p source)) (remembered_both keeping_plain (arriving source) p turns from.peers true [])) in
    let behind = whole_has_arrived from turns states leads p a here source in
    let agree : Agree (arrived_from from.peers turns p source) (whole_from from.peers turns p source) = λ k x y e f. some_same x y (sym e ∙ ap (λ (xs : List Item). slice_get xs k) (sym behind.0.1) ∙ prefix_get (whole_from from.peers turns p source) behind.0.0 k y f) in
    (subst (λ (k : ((Bool × List Item) × List Item) × List Receive). k.0.0.0 ≡ true → IsChosen source want mine counts k.1 → Agree k.0.0.1 k.0.1 → Turns source want mine counts k.0.0.1 k.0.1 k.1 a.state.rx a.state.cq.written) same (kept from p source within want mine counts turns states leads a here)
    (plain_kept p turns from.peers true refl plain) chosen agree).tells
