-- Where some order of turns takes all steps, the replay does so too, and ends in the same states.
use Rattle.std.proofs.Common.{◌≡◌, ◌≢◌, ◌<◌, ℕ, zero, suc, true, false, List, [], ◌∷◌, ◌++◌, length, map, sum_by, slice_get, set, get_or, Option, Some, None, inl, inr, refl, sym, ◌∙◌, ap, ap₂, subst, arith, eqb, get_or-set_same, get_or-set_other, append-nil}
use Rattle.std.proofs.lemmas.Bool.{cases_eq}
use Rattle.std.proofs.lemmas.List.Sums.{sum_by-cons}
use Rattle.std.proofs.lemmas.Bool.Decides.{nat_tests}
use Rattle.std.proofs.lemmas.Option.{get_or_from_slice_get, slice_get_within}
use Rattle.fab_model.specs.Orders.{Moment, steps_left, turn_with, turn, replay, Turn, Leads, steps_of, AreSteps, by, Reached}
use Rattle.fab_model.specs.Laws.{Run, AtEnd}
use Rattle.fab_model.proofs.Turns.{Commutes, turn_taken, turn_is, confluence}
use Rattle.fab_model.proofs.Confluence.{replay_runs}

pub steps_of_own : {Step : Type 0} (p : ℕ) (t : Turn Step) (turns : List (Turn Step)) → t.peer ≡ p → steps_of p (t ∷ turns) ≡ t.step ∷ steps_of p turns
steps_of_own p t turns same = let e : eqb t.peer p ≡ true = grind (arith, nat_tests) in rw e refl

pub steps_of_other : {Step : Type 0} (p : ℕ) (t : Turn Step) (turns : List (Turn Step)) → t.peer ≢ p → steps_of p (t ∷ turns) ≡ steps_of p turns
steps_of_other p t turns differ = let e : eqb t.peer p ≡ false = grind (arith, nat_tests) in rw e refl

pub has_next : {X : Type 0} (left : List (List X)) (p : ℕ) (a : X) (rest : List X) → get_or left p [] ≡ a ∷ rest → (p < length left) × (slice_get left p ≡ Some (a ∷ rest))
has_next [] p a rest e = absurd (cc)
has_next (l ∷ left) zero a rest e = (omega arith, ap Some e)
has_next (l ∷ left) (suc p) a rest e = let ih = has_next left p a rest e in (omega (arith, ih.0), ih.1)

module _ {S Step : Type 0} (rule : List S → ℕ → Step → Option S) where
  at_end : (m : Moment S Step) → AreSteps m.left [] → AtEnd (turn rule) m
  at_end m none p = go (slice_get m.left p) refl
    where
      go : (o : Option (List Step)) → slice_get m.left p ≡ o → turn_with rule m p o ≡ None
      go None here = refl
      go (Some []) here = refl
      go (Some (a ∷ rest)) here = let e = none p in let f : get_or m.left p [] ≡ a ∷ rest = get_or_from_slice_get m.left p (a ∷ rest) [] here in absurd (cc)

  fewer : (left : List (List Step)) (t : Turn Step) (turns : List (Turn Step)) → t.peer < length left → AreSteps left (t ∷ turns) → AreSteps (set left t.peer (steps_of t.peer turns)) turns
  fewer left t turns within are p = elim (cases_eq t.peer p) [
    | inl same ↦ subst (λ q. get_or (set left t.peer (steps_of t.peer turns)) q [] ≡ steps_of q turns) same (get_or-set_same left t.peer (steps_of t.peer turns) [] within)
    | inr differ ↦ get_or-set_other left t.peer p (steps_of t.peer turns) [] (λ e. differ (sym e)) ∙ are p ∙ steps_of_other p t turns differ
  ]

  leads_run : (turns : List (Turn Step)) (states last : List S) (left : List (List Step)) → Leads rule states turns last → AreSteps left turns
      → (end : List (List Step)) × Run (turn rule) (record { states = states; left = left }) (map (λ t. t.peer) turns) (record { states = last; left = end }) × AreSteps end []
  leads_run [] states last left leads are = (left, ap (λ (ss : List S). let m : Moment S Step = record { states = ss; left = left } in m) leads, are)
  leads_run (t ∷ turns) states last left leads are =
      let next = has_next left t.peer t.step (steps_of t.peer turns) (are t.peer ∙ steps_of_own t.peer t turns refl) in
      let m : Moment S Step = record { states = states; left = left } in
      let ih = leads_run turns (set states t.peer leads.0) last (set left t.peer (steps_of t.peer turns)) leads.2 (fewer left t turns next.0 are) in
      (ih.0, (_, turn_taken rule m t.peer t.step (steps_of t.peer turns) leads.0 next.1 leads.1, ih.1), ih.2)

  no_steps : (left : List (List Step)) → AreSteps left [] → sum_by length left ≡ 0
  no_steps [] none = refl
  no_steps (l ∷ left) none = omega (arith, sum_by-cons length l left, ap length (none 0), no_steps left (λ p. none (suc p)))

  pub lawful : (Sound : List S → Type 0) → Commutes rule Sound → (turns : List (Turn Step)) (states last : List S) (left : List (List Step)) → Sound states → Leads rule states turns last → AreSteps left turns
      → ((replay rule (record { states = states; left = left })).states ≡ last) × (steps_left (replay rule (record { states = states; left = left })) ≡ 0)
  lawful Sound law turns states last left sound leads are =
      let run = leads_run turns states last left leads are in
      let x : Moment S Step = record { states = last; left = run.0 } in
      let e = confluence rule Sound law (record { states = states; left = left }) x (map (λ t. t.peer) turns) sound run.1 (at_end x run.2) in
      (ap (λ (m : Moment S Step). m.states) e, ap steps_left e ∙ no_steps run.0 run.2)

  -- at the opening no step is taken
  pub reached_opening : (opening : List S) (schedules : List (List Step)) → AreSteps schedules [] → Reached rule opening schedules opening
  reached_opening opening schedules none = ([], refl, none)

  leads_append : (turns more : List (Turn Step)) (states mid last : List S) → Leads rule states turns mid → Leads rule mid more last → Leads rule states (turns ++ more) last
  leads_append [] more states mid last leads then = subst (λ ss. Leads rule ss more last) (sym leads) then
  leads_append (t ∷ turns) more states mid last leads then = (leads.0, leads.1, leads_append turns more (set states t.peer leads.0) mid last leads.2 then)

  steps_of-append : (p : ℕ) (turns more : List (Turn Step)) → steps_of p (turns ++ more) ≡ steps_of p turns ++ steps_of p more
  steps_of-append p [] more = refl
  steps_of-append p (t ∷ turns) more = elim (cases_eq t.peer p) [
    | inl same ↦ steps_of_own p t (turns ++ more) same ∙ ap (λ xs. t.step ∷ xs) (steps_of-append p turns more) ∙ ap (λ xs. xs ++ steps_of p more) (sym (steps_of_own p t turns same))
    | inr differ ↦ steps_of_other p t (turns ++ more) differ ∙ steps_of-append p turns more ∙ ap (λ xs. xs ++ steps_of p more) (sym (steps_of_other p t turns differ))
  ]

  steps_of-by_own : (p : ℕ) (steps : List Step) → steps_of p (by p steps) ≡ steps
  steps_of-by_own p [] = refl
  steps_of-by_own p (a ∷ steps) = steps_of_own p (record { peer = p; step = a }) (by p steps) refl ∙ ap (λ xs. a ∷ xs) (steps_of-by_own p steps)

  steps_of-by_other : (p q : ℕ) (steps : List Step) → p ≢ q → steps_of q (by p steps) ≡ []
  steps_of-by_other p q [] differ = refl
  steps_of-by_other p q (a ∷ steps) differ = steps_of_other q (record { peer = p; step = a }) (by p steps) differ ∙ steps_of-by_other p q steps differ

  -- a peer's further steps join its list
  pub reached_more : (opening states last : List S) (schedules : List (List Step)) (p : ℕ) (steps : List Step) → p < length schedules → Reached rule opening schedules states → Leads rule states (by p steps) last → Reached rule opening (set schedules p (get_or schedules p [] ++ steps)) last
  reached_more opening states last schedules p steps within reached leads = (
    reached.0 ++ by p steps,
    leads_append reached.0 (by p steps) opening states last reached.1 leads,
    λ q. elim (cases_eq p q) [
      | inl same ↦ subst (λ k. get_or (set schedules p (get_or schedules p [] ++ steps)) k [] ≡ steps_of k (reached.0 ++ by p steps)) same
          (get_or-set_same schedules p _ [] within ∙ ap₂ (λ (xs ys : List Step). xs ++ ys) (reached.2 p) (sym (steps_of-by_own p steps)) ∙ sym (steps_of-append p reached.0 (by p steps)))
      | inr differ ↦ get_or-set_other schedules p q _ [] (λ e. differ (sym e)) ∙ reached.2 q ∙ sym (append-nil (steps_of q reached.0)) ∙ ap (λ xs. steps_of q reached.0 ++ xs) (sym (steps_of-by_other p q steps differ)) ∙ sym (steps_of-append q reached.0 (by p steps))
    ],
  )

  -- what is reached in some order, the replay reaches, with no step left over
  pub reached_lawful : (Sound : List S → Type 0) → Commutes rule Sound → (opening last : List S) (schedules : List (List Step)) → Sound opening → Reached rule opening schedules last
      → ((replay rule (record { states = opening; left = schedules })).states ≡ last) × (steps_left (replay rule (record { states = opening; left = schedules })) ≡ 0)
  reached_lawful Sound law opening last schedules sound reached = lawful Sound law reached.0 opening last schedules sound reached.1 reached.2

  -- what is reached from sound states is sound
  pub leads_sound : (Sound : List S → Type 0) → Commutes rule Sound → (turns : List (Turn Step)) (states last : List S) → Sound states → Leads rule states turns last → Sound last
  leads_sound Sound law [] states last sound leads = subst Sound leads sound
  leads_sound Sound law (t ∷ turns) states last sound leads = leads_sound Sound law turns (set states t.peer leads.0) last (law.keeps states t.peer t.step leads.0 sound leads.1) leads.2

  -- ---- a run to its end is an order of turns

  none_left : (left : List (List Step)) → sum_by length left ≡ 0 → AreSteps left []
  none_left [] none p = refl
  none_left (l ∷ left) none zero = go l (omega (arith, none, sum_by-cons length l left))
    where
      go : (l : List Step) → length l ≡ 0 → l ≡ []
      go [] e = refl
      go (a ∷ l) e = absurd (omega (arith, e))
  none_left (l ∷ left) none (suc p) = none_left left (omega (arith, none, sum_by-cons length l left)) p

  -- before a turn each list has its peer's step more
  one_more :
      (left : List (List Step)) (t : Turn Step) (rest : List Step) (turns : List (Turn Step)) → slice_get left t.peer ≡ Some (t.step ∷ rest) → AreSteps (set left t.peer rest) turns
      → AreSteps left (t ∷ turns)
  one_more left t rest turns has are p = elim (cases_eq t.peer p) [
    | inl same ↦ subst (λ q. get_or left q [] ≡ steps_of q (t ∷ turns)) same
        (get_or_from_slice_get left t.peer (t.step ∷ rest) [] has
        ∙ ap (λ xs. t.step ∷ xs) (sym (get_or-set_same left t.peer rest [] (slice_get_within left t.peer (t.step ∷ rest) has)) ∙ are t.peer)
        ∙ sym (steps_of_own t.peer t turns refl))
    | inr differ ↦ sym (get_or-set_other left t.peer p rest [] (λ e. differ (sym e))) ∙ are p ∙ sym (steps_of_other p t turns differ)
  ]

  run_leads :
      (order : List ℕ) (m x : Moment S Step) → Run (turn rule) m order x → AreSteps x.left [] → (turns : List (Turn Step)) × Leads rule m.states turns x.states × AreSteps m.left turns
  run_leads [] m x run none = ([], ap (λ (m : Moment S Step). m.states) run, subst (λ (m : Moment S Step). AreSteps m.left []) (sym run) none)
  run_leads (p ∷ order) m x run none =
      let is = turn_is rule m run.0 p run.1 in
      let t : Turn Step = record { peer = p; step = is.0 } in
      let ih = run_leads order run.0 x run.2 none in
      let leads : Leads rule (set m.states p is.2) ih.0 x.states = subst (λ (n : Moment S Step). Leads rule n.states ih.0 x.states) is.5 ih.1 in
      let are : AreSteps (set m.left p is.1) ih.0 = subst (λ (n : Moment S Step). AreSteps n.left ih.0) is.5 ih.2 in
      (t ∷ ih.0, (is.2, is.4, leads), one_more m.left t is.1 ih.0 is.3 are)

  -- what the replay ends in with no step left over is reached in some order
  pub replay_reached :
      (opening : List S) (schedules : List (List Step)) → steps_left (replay rule (record { states = opening; left = schedules })) ≡ 0
      → Reached rule opening schedules (replay rule (record { states = opening; left = schedules })).states
  replay_reached opening schedules none =
      let m : Moment S Step = record { states = opening; left = schedules } in
      let run = replay_runs (turn rule) (length schedules) (steps_left m) m in
      run_leads run.0 m (replay rule m) run.1 (none_left (replay rule m).left none)
