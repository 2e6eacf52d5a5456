-- What bodies of an endpoint's calls do that their contracts refuse.
--     sends_behind      a transmit call that posts behind what waits for its peer
--     sends_looking     one that looks at a lane that comes in
--     spends_undrawn    a progress that ends at its budget and leaves a draw that has room
--     reads_alone       a read of the completion queue that makes no progress before it, where a draw has room
use Rattle.std.proofs.Common.{◌≡◌, ◌≢◌, ◌<◌, ℕ, suc, Bool, true, false, List, [], ◌∷◌, ◌++◌, length, length-append, append-nil, Some, None, Result, Ok, inl, inr, refl, sym, ap, ◌∙◌, subst, arith}
use Rattle.fab_base.specs.declared.entries.Entry.{Entry}
use Rattle.fab_base.specs.declared.faults.NoMemory.{NoMemory}
use Rattle.fab_link.specs.Meaning.{Incoming}
use Rattle.fab_model.specs.State.{fits, lookup}
use Rattle.fab_model.specs.Receiving.{draw_due}
use Rattle.fab_model.specs.Arrivals.{do_draw}
use Rattle.fab_model.specs.Calls.{Call}
use Rattle.fab_face.specs.declared.events.Moved.{Moved}
use Rattle.fab_face.specs.declared.events.Stop.TheVariants.{Budget}
use Rattle.fab_face.specs.Held.{Held, Seen, next_frame}
use Rattle.fab_face.specs.Acts.{Act, Did, Took, Posted, Drew, Had, GoesBy, Went, events, is_draw, posted_to}
use Rattle.fab_face.specs.Answers.{AllAre, Drawn, HasPlaces, IsFull, Progressed, ReadsAs, ReadsOn, Sends}

logs_some : (acts draws rest : List Act) → acts ≡ draws ++ rest → AllAre is_draw draws → draws ≢ [] → 0 < length (events acts)
logs_some acts [] rest is are some = absurd (some refl)
logs_some acts (Drew ∷ draws) rest is are some = rw is (let l : length (events (Drew ∷ (draws ++ rest))) ≡ suc (length (events (draws ++ rest))) = refl in omega (arith, l))
logs_some acts (Did ∷ draws) rest is are some = absurd (cc)
logs_some acts (Took source f ∷ draws) rest is are some = absurd (cc)
logs_some acts (Posted dest f ∷ draws) rest is are some = absurd (cc)
logs_some acts (Had ∷ draws) rest is are some = absurd (cc)

module _ {Home : Type 0} where
  none_before : (fixed : Bool) (call : Call) (dest : ℕ) (old new : Seen Home) → (s : Sends fixed call dest old new) → (IsFull old → ⊥) → s.before ≡ []
  none_before fixed call dest old new s free = by s.before s.only_if_full
    where
      by : (acts : List Act) → (acts ≢ [] → IsFull old) → acts ≡ []
      by [] full = refl
      by (act ∷ acts) full = absurd (free (full (λ none. absurd (cc (none)))))

  -- with an entry free there is no push, and something waits for the peer
  pub sends_behind : (fixed : Bool) (call : Call) (dest t : ℕ) (old new : Seen Home) → Sends fixed call dest old new → (IsFull old → ⊥) → lookup old.held.state.av dest ≡ Some t → next_frame old.held t ≢ None
      → (new.lanes.outs t).frames ≢ (old.lanes.outs t).frames → ⊥
  sends_behind fixed call dest t old new s free at waits posted =
      let none = none_before fixed call dest old new s free in
      let same : old.held ≡ s.mid.held = subst (λ (acts : List Act). GoesBy None old.held acts s.mid.held) none s.till.goes in
      let after : s.after ≡ [] = s.behind t at (subst (λ (h : Held). next_frame h t ≢ None) same waits) in
      posted (s.went.ported.posted t ∙ ap (λ xs. (old.lanes.outs t).frames ++ posted_to t (xs ++ Did ∷ s.after)) none ∙ ap (λ ys. (old.lanes.outs t).frames ++ posted_to t (Did ∷ ys)) after ∙ append-nil (old.lanes.outs t).frames)

  pub sends_looking : (fixed : Bool) (call : Call) (dest source : ℕ) (old new : Seen Home) → Sends fixed call dest old new → new.lanes.ins source ≢ old.lanes.ins source → ⊥
  sends_looking fixed call dest source old new s looked = looked (ap (λ (i : ℕ → Incoming). i source) s.ins)

  undrawn : (e : Seen Home) → Drawn e → draw_due e.held.state.rx ≡ true → fits (do_draw e.held.state).cq ≡ true → HasPlaces e → ⊥
  undrawn e drawn due room places = elim (drawn due) [ inl lacks ↦ absurd (cc (sym lacks ∙ room)) | inr short ↦ absurd (omega (arith, short, places)) ]

  pub spends_undrawn : (fixed : Bool) (budget : ℕ) (old new : Seen Home) (moved : Moved) → Progressed fixed budget old new (Ok moved) → moved.stop ≡ Budget
      → draw_due new.held.state.rx ≡ true → fits (do_draw new.held.state).cq ≡ true → HasPlaces new → ⊥
  spends_undrawn fixed budget old new moved p stop due room places = let drawn : Drawn new = rw stop at p.counted.3 in undrawn new drawn due room places

  still_drawn : (old mid : Seen Home) → Went None old mid [] → Drawn mid → Drawn old
  still_drawn old mid went drawn due =
      let same : old.held ≡ mid.held = went.goes in
      elim (drawn (subst (λ (h : Held). draw_due h.state.rx ≡ true) same due)) [
        | inl lacks ↦ inl (subst (λ (h : Held). fits (do_draw h.state).cq ≡ false) (sym same) lacks)
        | inr short ↦ inr (let l = ap length (went.log ∙ append-nil old.log) in let size = went.size in omega (arith, short, l, size))
      ]

  log_stays : (mid new : Seen Home) (moved : Result Moved NoMemory) (entry : Entry) → ReadsAs mid new moved (Ok entry) → new.log ≡ mid.log
  log_stays mid new moved entry pops = ap (λ (x : Seen Home). x.log) pops.read

  -- the draw is in the log, whatever came of the frames, and of memory
  pub reads_alone : (fixed : Bool) (budget : ℕ) (old new : Seen Home) (entry : Entry) → ReadsOn fixed budget old new (Ok entry) → draw_due old.held.state.rx ≡ true → fits (do_draw old.held.state).cq ≡ true → HasPlaces old → new.log ≡ old.log → ⊥
  reads_alone fixed budget old new entry reads due room places same =
      let p = reads.progressed in
      let b = p.begins in
      let some = logs_some p.acts b.draws b.rest b.parts b.are (λ none. undrawn old (still_drawn old b.mid (subst (λ (xs : List Act). Went None old b.mid xs) none b.drew) b.drawn) due room places) in
      let l = ap length p.went.log ∙ length-append old.log (events p.acts) in
      let n = ap length (sym same ∙ log_stays reads.mid new reads.moved entry reads.popped) in
      omega (arith, l, n, some)
