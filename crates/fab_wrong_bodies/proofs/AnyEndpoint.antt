-- What bodies of an endpoint's calls do that the clauses of its traits refuse. Each call is handed on in `src/endpoints.rt`.
--     idle_undrawn               `progress`, its clause: it is idle while a draw is due
--     idle_without_a_look        the same: it tells that nothing is left to move, and did not look at a lane
--     budget_without_a_frame     the same: it tells that its budget is spent, and moved no frame
--     refusal_keeps_the_bytes    `send`, err: a refusal hands an empty buffer back
--     send_always_full           the same: all entries are told to be in use, where one is free
--     releases_late              `recv_multi`, ok: the buffer is held until one byte is free, whatever was asked for
use Rattle.std.proofs.Common.{◌≡◌, ◌≢◌, ◌<◌, ℕ, ◌+◌, ◌^◌, get_or, Bool, true, false, not, ◌&&◌, ◌||◌, inl, inr, List, [], ◌∷◌, ◌++◌, Option, Some, Result, Ok, Err, refl, sym, ap, ◌∙◌, subst, arith}
use Rattle.std.specs.Prelude.{is_some, is_none, nat_le, IfErr}
use Rattle.std.specs.List.{list_any}
use Rattle.std.proofs.lemmas.Bool.Decides.{nat_tests}
use Rattle.std.proofs.lemmas.List.{append_cancel_left}
use Rattle.fab_base.specs.declared.faults.Busy.TheVariants.{TxFull}
use Rattle.fab_base.specs.declared.faults.Fault.TheVariants.{Again, Invalid, MsgSize, NotSupported}
use Rattle.fab_base.specs.declared.faults.Fault.{Fault}
use Rattle.fab_base.specs.declared.faults.Refused.{Refused as RefusedWith}
use Rattle.fab_base.specs.declared.operations.Receive.{Receive}
use Rattle.fab_base.specs.declared.peers.LineResult.TheVariants.{Done, Refused}
use Rattle.fab_model.specs.State.{Receiving, State, in_use, lookup}
use Rattle.fab_model.specs.Sending.{Order, first_fault, is_granted, is_too_long, is_well_formed, transmit, transmit_fault}
use Rattle.fab_model.specs.Receiving.{Posting, draw_due, draws, post, post_fault, receive_of}
use Rattle.fab_model.specs.Calls.{Call, Post, Transmit, answer, do_call}
use Rattle.fab_model.proofs.Answering.{done_by as after_answer}
use Rattle.fab_face.specs.declared.events.Moved.{Moved}
use Rattle.fab_face.specs.declared.events.Stop.TheVariants.{Budget, Idle}
use Rattle.fab_face.specs.Held.{Held, Seen}
use Rattle.fab_face.specs.Acts.{Act, Did, Drew, GoesBy, Had, Posted, Took, is_draw}
use Rattle.fab_face.specs.Answers.{AllAre, IsIdle, Progressed, Receives, SendsNot, receive_call}

module _ {Home : Type 0} where
  pub idle_undrawn : (fixed : Bool) (budget : ℕ) (old new : Seen Home) (moved : Moved) → Progressed fixed budget old new (Ok moved) → moved.stop ≡ Idle → draw_due new.held.state.rx ≡ true → ⊥
  idle_undrawn fixed budget old new moved p stop due = let idle : IsIdle old new = rw stop at p.counted.3 in absurd (cc (sym due ∙ idle.draws))

  -- the count of empty looks at this lane, which is not at its last value, stays
  pub idle_without_a_look : (fixed : Bool) (budget source : ℕ) (old new : Seen Home) (moved : Moved) → Progressed fixed budget old new (Ok moved) → moved.stop ≡ Idle → source < new.lanes.peers
      → (old.lanes.ins source).empty_seen + 1 < 2 ^ 64 → (new.lanes.ins source).empty_seen ≡ (old.lanes.ins source).empty_seen → ⊥
  idle_without_a_look fixed budget source old new moved p stop peer below stays =
      let idle : IsIdle old new = rw stop at p.counted.3 in
      elim (idle.empty source peer).rose [
        | inl less ↦ omega (arith, less, stays)
        | inr last ↦ (let same = last.0 in let end = last.1 in omega (arith, same, end, below))
      ]

  pub budget_without_a_frame : (fixed : Bool) (budget : ℕ) (old new : Seen Home) (moved : Moved) → Progressed fixed budget old new (Ok moved) → moved.stop ≡ Budget → 0 < budget
      → moved.taken ≡ 0 → moved.posted ≡ 0 → ⊥
  budget_without_a_frame fixed budget old new moved p stop some taken posted = let all = p.counted.2.0 stop in omega (arith, all, some, taken, posted)

-- ---- a send that is refused, the clause `err` of `send`

free_is_not_full : (a b c d : Bool) (m n : ℕ) (s after t : State) → d ≡ false → answer (first_fault ((a, NotSupported) ∷ (b, MsgSize) ∷ (c, Invalid) ∷ (d, Again (TxFull m)) ∷ [])) s after ≡ (Refused (Again (TxFull n)), t) → ⊥
free_is_not_full true b c d m n s after t e full = absurd (cc (ap (λ p. p.0) full))
free_is_not_full false true c d m n s after t e full = absurd (cc (ap (λ p. p.0) full))
free_is_not_full false false true d m n s after t e full = absurd (cc (ap (λ p. p.0) full))
free_is_not_full false false false true m n s after t e full = absurd (cc e)
free_is_not_full false false false false m n s after t e full = absurd (cc (ap (λ p. p.0) full))

module _ {Home : Type 0} (fixed : Bool) (old new : Seen Home) where
  pub send_always_full : (o : Order) (n : ℕ) → SendsNot fixed (Transmit o) old new (Again (TxFull n)) → in_use new.held.state.tx < new.held.state.most_tx → ⊥
  unfolding do_call transmit_fault
  send_always_full o n refused free =
      let s = new.held.state in
      let room : nat_le s.most_tx (in_use s.tx) ≡ false = grind (arith, nat_tests) in
      free_is_not_full (not (is_granted s.caps o.kind o.atom)) (is_too_long s.most_message o) (is_none (lookup s.av o.dest) || nat_le 4_611_686_018_427_387_904 s.tx.ops || not (is_well_formed o o.atom)) (nat_le s.most_tx (in_use s.tx)) s.most_tx n s (transmit s o) s room refused.judged.0

  pub refusal_keeps_the_bytes : (call : Call) (buf : List ℕ) (why : Fault) (result : Result Unit RefusedWith)
      → IfErr result (λ r. (r.buf ≡ buf) × SendsNot fixed call old new r.why) → result ≡ Err (record { why = why; buf = [] }) → buf ≢ [] → ⊥
  refusal_keeps_the_bytes call buf why result err empty some =
      let back = subst (λ (x : Result Unit RefusedWith). IfErr x (λ r. (r.buf ≡ buf) × SendsNot fixed call old new r.why)) empty err in
      some (sym back.0)

-- ---- a receive call that is Ok, the clauses `ok` of `peek` and `recv_multi`, where no draw is due before it and behind it

alone : (call : Option Call) (acts : List Act) (h t : Held) → AllAre is_draw acts → draw_due h.state.rx ≡ false → GoesBy call h acts t → h ≡ t
alone call [] h t are none goes = goes
alone call (Drew ∷ acts) h t are none (mid, goes, rest) = absurd (cc (sym none ∙ goes.0))
alone call (Did ∷ acts) h t are none goes = absurd (cc are)
alone call (Took source f ∷ acts) h t are none goes = absurd (cc are)
alone call (Posted dest f ∷ acts) h t are none goes = absurd (cc are)
alone call (Had ∷ acts) h t are none goes = absurd (cc are)

module _ (call : Call) where
  abbrev StaysDrawn : State → Type 0
  StaysDrawn s = (t : State) → do_call s call ≡ (Done, t) → draw_due t.rx ≡ false

  goes_alone : (before after : List Act) (h t : Held) → AllAre is_draw before → AllAre is_draw after → draw_due h.state.rx ≡ false → StaysDrawn h.state
      → GoesBy (Some call) h (before ++ Did ∷ after) t → do_call h.state call ≡ (Done, t.state)
  goes_alone [] after h t are later none stays (mid, goes, rest) =
      subst (λ (x : Held). do_call h.state call ≡ (Done, x.state)) (alone (Some call) after mid t later (stays mid.state goes.0) rest) goes.0
  goes_alone (Drew ∷ before) after h t are later none stays (mid, goes, rest) = absurd (cc (sym none ∙ goes.0))
  goes_alone (Did ∷ before) after h t are later none stays goes = absurd (cc are)
  goes_alone (Took source f ∷ before) after h t are later none stays goes = absurd (cc are)
  goes_alone (Posted dest f ∷ before) after h t are later none stays goes = absurd (cc are)
  goes_alone (Had ∷ before) after h t are later none stays goes = absurd (cc are)

  only_call : {Home : Type 0} (old new : Seen Home) → Receives call old new → draw_due old.held.state.rx ≡ false → StaysDrawn old.held.state → do_call old.held.state call ≡ (Done, new.held.state)
  only_call old new r none stays = goes_alone r.before r.after old.held new.held r.draws r.then_draws none stays r.went.goes

-- ---- multi-receives

none_drawn : (posted : List Receive) → list_any (draws []) posted ≡ false
none_drawn [] = refl
none_drawn (r ∷ posted) = by (is_some r.least) (none_drawn posted)
  where
    by : (b : Bool) → list_any (draws []) posted ≡ false → (b && false || list_any (draws []) posted) ≡ false
    by true none = none
    by false none = none

module _ {Home : Type 0} (old new : Seen Home) (source : Option ℕ) (buf : List ℕ) (ctx : ℕ) where
  abbrev multi : ℕ → Posting
  multi least = record { tagged = false; source = source; tag = 0; ignore = 0; buf = buf; least = Some least; ctx = ctx }

  posts : (least : ℕ) (s t : State) → do_call s (Post (multi least)) ≡ (Done, t) → t.rx ≡ record s.rx { posted = s.rx.posted ++ receive_of s (multi least) ∷ [] }
  unfolding do_call post
  posts least s t is = ap (λ (x : State). x.rx) (after_answer (post_fault s (multi least)) s (post s (multi least)) t is)

  -- no message waits
  pub releases_late : (least : ℕ) → old.held.state.rx.unexpected ≡ [] → Receives (receive_call false source 0 0 buf (Some least) ctx) old new
      → Receives (receive_call false source 0 0 buf (Some 1) ctx) old new → least ≢ 1 → ⊥
  releases_late least none received told differs =
      let s = old.held.state in
      let undue : (t : State) → t.rx.unexpected ≡ s.rx.unexpected → draw_due t.rx ≡ false = λ t same. rw (same ∙ none) (none_drawn t.rx.posted) in
      let made = λ (n : ℕ) (r : Receives (Post (multi n)) old new). posts n s new.held.state (only_call (Post (multi n)) old new r (undue s refl) (λ t is. undue t (ap (λ (rx : Receiving). rx.unexpected) (posts n s t is)))) in
      let both = ap (λ (rx : Receiving). rx.posted) (sym (made least received) ∙ made 1 told) in
      let same = append_cancel_left s.rx.posted (receive_of s (multi least) ∷ []) (receive_of s (multi 1) ∷ []) both in
      let leasts : Some least ≡ Some 1 = ap (λ (rs : List Receive). (get_or rs 0 (receive_of s (multi least))).least) same in
      differs cc
