-- What bodies of a matching store's calls do that the clauses of `Matcher` refuse. Each call is handed on in `src/stores.rt`.
--     later_posted       `first_posted`, first: a message goes to another receive than the first that may take it, however exact its tag
--     later_arrived      `first_unexpected`, first: a receive gets another message than the first that it may take
--     later_passed       `first_where`, first: a look along those posted answers another than the first that passes
--     last_in_the_hole   `remove_posted` and `remove_unexpected`, rest: what stands behind one that is taken out changes its order
--     taken_from_both    `remove_posted`, unexpected: with the receive a message goes that has its id; `remove_unexpected`, posted: the other way
use Rattle.std.proofs.Common.{◌≡◌, ◌≢◌, ℕ, ◌==◌, Bool, true, false, List, [], ◌∷◌, length, find, Some, refl, sym, ap, ◌∙◌, arith}
use Rattle.std.specs.List.{list_any}
use Rattle.std.proofs.lemmas.Bool.{eq-eqb}
use Rattle.fab_base.specs.declared.items.Sign.{Sign}
use Rattle.fab_base.specs.declared.items.Want.{Want}
use Rattle.fab_model.specs.Matching.{remove_first}
use Rattle.fab_model.proofs.Removing.{remove_here as from_front}
use Rattle.fab_match.specs.Signs.{fits}
use Rattle.fab_match.specs.Matcher.{first_id, has_id, ids, without}

module _ {X : Type 0} (first : ℕ × X) (others : List (ℕ × X)) where
  is_first : (test : X → Bool) → test first.1 ≡ true → first_id test (first ∷ others) ≡ Some first.0
  is_first test passes = rw passes refl

  another : (test : X → Bool) (id : ℕ) → test first.1 ≡ true → Some id ≡ first_id test (first ∷ others) → id ≢ first.0 → ⊥
  another test id passes told other =
      let both : Some id ≡ Some first.0 = told ∙ is_first test passes in
      other cc

  -- another than the next one stands in front then
  pub last_in_the_hole : (removed last : ℕ × X) (rest : List (ℕ × X)) → last ∷ rest ≡ without removed.0 (removed ∷ first ∷ others) → last.0 ≢ first.0 → ⊥
  last_in_the_hole removed last rest stays other =
      let both : last ∷ rest ≡ first ∷ others = stays ∙ from_front (λ p. p.0 == removed.0) removed (first ∷ others) (eq-eqb removed.0 removed.0 refl) in
      let same : last ≡ first = cc in
      other (ap (λ (p : ℕ × X). p.0) same)

-- however exact the tag of the other one
pub later_posted : (first : ℕ × Want) (others : List (ℕ × Want)) (sign : Sign) (id : ℕ) → fits first.1 sign ≡ true → Some id ≡ first_id (λ want. fits want sign) (first ∷ others) → id ≢ first.0 → ⊥
later_posted first others sign id passes told other = another first others (λ want. fits want sign) id passes told other

pub later_arrived : (first : ℕ × Sign) (others : List (ℕ × Sign)) (want : Want) (id : ℕ) → fits want first.1 ≡ true → Some id ≡ first_id (λ sign. fits want sign) (first ∷ others) → id ≢ first.0 → ⊥
later_arrived first others want id passes told other = another first others (λ sign. fits want sign) id passes told other

pub later_passed : (first : ℕ × Want) (others : List (ℕ × Want)) (passes : ℕ → Bool) (id : ℕ) → passes first.0 ≡ true → Some id ≡ find passes (ids (first ∷ others)) → id ≢ first.0 → ⊥
later_passed first others passes id passed told other =
    let is : find passes (ids (first ∷ others)) ≡ Some first.0 = rw passed refl in
    let both : Some id ≡ Some first.0 = told ∙ is in
    other cc

-- ---- with one that is taken out, another of its id in the other list

fewer : {X : Type 0} (test : X → Bool) (xs : List X) → list_any test xs ≡ true → length (remove_first test xs) ≡ length xs → ⊥
fewer test [] some same = absurd (cc some)
fewer test (x ∷ xs) some same = elim (test x) as (λ b. test x ≡ b → ⊥) [
  | true ↦ λ passes. let one = ap length (from_front test x xs passes) in omega (arith, one, same)
  | false ↦ λ fails.
      let more : list_any test xs ≡ true = sym (rw fails refl) ∙ some in
      let stays : remove_first test (x ∷ xs) ≡ x ∷ remove_first test xs = rw (fails, remove_first) refl in
      let one = ap length stays in
      fewer test xs more (omega (arith, one, same))
] refl

pub taken_from_both : {X : Type 0} (old new : List (ℕ × X)) (id : ℕ) → has_id id old ≡ true → new ≡ old → new ≡ without id old → ⊥
taken_from_both old new id some stays wrong = fewer (λ p. p.0 == id) old some (ap length (sym wrong ∙ stays))
