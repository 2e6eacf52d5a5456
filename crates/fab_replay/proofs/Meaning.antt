-- Each answer of the checker, and what it means.
use Rattle.std.proofs.Common.{◌≡◌, ℕ, zero, suc, ◌+◌, ◌-◌, ◌<◌, ◌≤◌, ◌↔◌, Bool, true, false, cond, List, [], ◌∷◌, length, sum_by, get_or, Option, Some, None, refl, sym, ap, subst, ◌∙◌, arith, Result, Ok, Err, IfOk}
use Rattle.std.specs.Prelude.{bytes_eq}
use Rattle.std.proofs.lemmas.List.Sums.{sum_by-cons}
use Rattle.std.proofs.lemmas.Slice.Eq.{bytes_eq-Decides}
use Rattle.fab_base.specs.declared.peers.Step.{Step}
use Rattle.fab_base.specs.declared.script.Bound.{Bound}
use Rattle.fab_model.specs.Orders.{Moment}
use Rattle.fab_model.specs.Peers.{Actor}
use Rattle.fab_model.specs.Replay.{Lawful, replayed, at_rest}
use Rattle.fab_model.specs.Report.{report}
use Rattle.fab_replay.specs.declared.verdicts.Verdict.{Verdict}
use Rattle.fab_replay.specs.declared.verdicts.Verdict.TheVariants as answer
use Rattle.fab_replay.specs.Meaning.{Means}
use Rattle.fab_report.specs.Reading.{schedule_told}
use Rattle.fab_replay.specs.Verdict.{first_left, number_left, common, compared, judged, verdict}

-- ---- no peer has a step left exactly where no step is left

none-left : (left : List (List Step)) (p : ℕ) → first_left p left ≡ None → sum_by length left ≡ 0
none-left [] p none = refl
none-left ([] ∷ left) p none = omega (arith, sum_by-cons length [] left, none-left left (p + 1) none)
none-left ((step ∷ steps) ∷ left) p none = absurd (cc)

left-none : (left : List (List Step)) (p : ℕ) → sum_by length left ≡ 0 → first_left p left ≡ None
left-none [] p none = refl
left-none ([] ∷ left) p none = left-none left (p + 1) (omega (arith, sum_by-cons length [] left, none))
left-none ((step ∷ steps) ∷ left) p none = absurd (omega (arith, sum_by-cons length (step ∷ steps) left, none))

pub first_left-Lawful : (bound : Bound) (schedule : List (List Step)) → (first_left 0 (replayed bound schedule).left ≡ None) ↔ Lawful bound schedule
first_left-Lawful bound schedule = (none-left (replayed bound schedule).left 0, left-none (replayed bound schedule).left 0)

-- the lowest peer with a step left has one, and no lower peer has
lowest-left : (left : List (List Step)) (k p : ℕ) → first_left k left ≡ Some p
    → (k ≤ p) × (0 < length (get_or left (p - k) [])) × ((q : ℕ) → q < p - k → get_or left q [] ≡ [])
lowest-left [] k p e = absurd (cc)
lowest-left ([] ∷ left) k p e =
    let ih = lowest-left left (k + 1) p e in
    let one : p - k ≡ suc (p - (k + 1)) = omega (arith, ih.0) in
    (omega (arith, ih.0), rw one ih.1, lower one ih.2)
  where
    lower : p - k ≡ suc (p - (k + 1)) → ((q : ℕ) → q < p - (k + 1) → get_or left q [] ≡ []) → (q : ℕ) → q < p - k → get_or ([] ∷ left) q [] ≡ []
    lower one none zero below = refl
    lower one none (suc q) below = none q (omega (arith, one, below))
lowest-left ((step ∷ steps) ∷ left) k p e =
    let same : k ≡ p = cc in
    let none : p - k ≡ 0 = omega (arith, same) in
    (omega (arith, same), rw none (omega arith), λ q below. absurd (omega (arith, none, below)))

-- and is the only such peer
first-lowest : (left : List (List Step)) (k p : ℕ) → 0 < length (get_or left p []) → ((q : ℕ) → q < p → get_or left q [] ≡ []) → first_left k left ≡ Some (k + p)
first-lowest [] k p some none = absurd (omega (arith, some))
first-lowest ([] ∷ left) k zero some none = absurd (omega (arith, some))
first-lowest ([] ∷ left) k (suc p) some none =
    first-lowest left (k + 1) p some (λ q below. none (suc q) (omega (arith, below))) ∙ ap Some (omega arith)
first-lowest ((step ∷ steps) ∷ left) k zero some none = ap Some (omega arith)
first-lowest ((step ∷ steps) ∷ left) k (suc p) some none = absurd (let e = ap length (none 0 (omega arith)) in omega (arith, e))

-- ---- the answer means what it says

module _ (bound : Bound) (text : List ℕ) where
  module _ (schedule : List (List Step)) (told : schedule_told bound.script.conf.peers text ≡ Some schedule) where
    abbrev end : Moment Actor Step
    end = replayed bound schedule

    equal-means : first_left 0 end.left ≡ None → (b : Bool) → bytes_eq (report bound schedule) text ≡ b
        → Means bound text (cond b (answer.Lawful (at_rest end.states)) (answer.Differs (common (report bound schedule) text)))
    equal-means none true same = record {
      schedule = schedule;
      told = told;
      lawful = (first_left-Lawful bound schedule).0 none;
      text_is = sym ((bytes_eq-Decides (report bound schedule) text).0 same);
      rest_is = refl;
    }
    equal-means none false other = record {
      schedule = schedule;
      told = told;
      lawful = (first_left-Lawful bound schedule).0 none;
      differs = λ same. (let is = (bytes_eq-Decides (report bound schedule) text).1 (sym same) in absurd (cc));
      at_is = refl;
    }

    judged-means : (o : Option ℕ) → first_left 0 end.left ≡ o
        → Means bound text (elim o [ Some p ↦ answer.Left p (number_left schedule end.left p) | None ↦ compared end.states (report bound schedule) text ])
    judged-means None none = equal-means none (bytes_eq (report bound schedule) text) refl
    judged-means (Some p) some =
        let lowest = lowest-left end.left 0 p some in
        let same : p - 0 ≡ p = omega arith in
        record {
          schedule = schedule;
          told = told;
          unlawful = λ lawful. (let none = (first_left-Lawful bound schedule).1 lawful in absurd (cc));
          has_left = subst (λ n. 0 < length (get_or end.left n [])) same lowest.1;
          lower_have_none = λ q below. lowest.2 q (omega (arith, same, below));
          number = refl;
        }

  told-means : (o : Option (List (List Step))) → schedule_told bound.script.conf.peers text ≡ o
      → Means bound text (elim o [ None ↦ answer.NoSchedule | Some schedule ↦ judged bound.script.version schedule (replayed bound schedule) text ])
  unfolding report
  told-means None none = none
  told-means (Some schedule) told = judged-means schedule told (first_left 0 (replayed bound schedule).left) refl

  pub verdict_means : Means bound text (verdict bound text)
  verdict_means = told-means (schedule_told bound.script.conf.peers text) refl

  -- ---- and no other answer means it

  first-step : (schedule : List (List Step)) → schedule_told bound.script.conf.peers text ≡ Some schedule → verdict bound text ≡ judged bound.script.version schedule (replayed bound schedule) text
  first-step schedule told = rw (told, verdict) refl

  lawful-step : (schedule : List (List Step)) → schedule_told bound.script.conf.peers text ≡ Some schedule → Lawful bound schedule
      → verdict bound text ≡ compared (replayed bound schedule).states (report bound schedule) text
  unfolding report
  lawful-step schedule told lawful =
      let none : first_left 0 (replayed bound schedule).left ≡ None = (first_left-Lawful bound schedule).1 lawful in
      first-step schedule told ∙ rw (none, judged) refl

  unequal : (xs ys : List ℕ) (b : Bool) → bytes_eq xs ys ≡ b → (ys ≡ xs → ⊥) → b ≡ false
  unequal xs ys true same other = absurd (other (sym ((bytes_eq-Decides xs ys).0 same)))
  unequal xs ys false same other = refl

  pub means_verdict : (v : Verdict) → Means bound text v → v ≡ verdict bound text
  means_verdict (answer.Lawful rest) r =
      let same : bytes_eq (report bound r.schedule) text ≡ true = (bytes_eq-Decides (report bound r.schedule) text).1 (sym r.text_is) in
      sym (lawful-step r.schedule r.told r.lawful ∙ rw (same, compared) (ap answer.Lawful r.rest_is))
  means_verdict (answer.Differs at) r =
      let other : bytes_eq (report bound r.schedule) text ≡ false = unequal (report bound r.schedule) text (bytes_eq (report bound r.schedule) text) refl r.differs in
      sym (lawful-step r.schedule r.told r.lawful ∙ rw (other, compared) (ap answer.Differs (sym r.at_is)))
  means_verdict (answer.Left p step) r =
      let left = (replayed bound r.schedule).left in
      let some : first_left 0 left ≡ Some p = first-lowest left 0 p r.has_left r.lower_have_none ∙ ap Some (omega arith) in
      sym (first-step r.schedule r.told ∙ rw (some, judged) (ap (answer.Left p) (sym r.number)))
  means_verdict answer.NoSchedule none = sym (rw (none, verdict) refl)

  pub means_ok : {E : Type 0} (r : Result Verdict E) → IfOk r (λ v. v ≡ verdict bound text) → IfOk r (λ v. Means bound text v)
  means_ok (Ok v) is = subst (Means bound text) (sym is) verdict_means
  means_ok (Err e) is = tt
