-- The first member of a list that passes a test is changed in its place.
use Rattle.std.proofs.Common.{◌≡◌, ℕ, suc, ◌+◌, Bool, true, false, cond, List, [], ◌∷◌, get_or, set, Some, None, refl, sym, ap, ◌∙◌, arith}
use Rattle.std.specs.Prelude.{position}
use Rattle.std.specs.List.{list_any, position_from}
use Rattle.std.proofs.lemmas.Iterator.Adapters.{position_from-zero}
use Rattle.fab_model.specs.Matching.{change_first}
use Rattle.fab_model.proofs.Firsts.{list_any-none}

module _ {X : Type 0} (test : X → Bool) (f : X → X) (d : X) where
  from_step : (x : X) (xs : List X) (i j : ℕ) (b : Bool) → test x ≡ b → cond b (Some i) (position_from test (i + 1) xs) ≡ Some j
      → (position_from test (i + 1) xs ≡ Some j → (k : ℕ) × (j ≡ i + 1 + k) × (change_first test f xs ≡ set xs k (f (get_or xs k d))))
      → (k : ℕ) × (j ≡ i + k) × (change_first test f (x ∷ xs) ≡ set (x ∷ xs) k (f (get_or (x ∷ xs) k d)))
  from_step x xs i j true t e more = let same : i ≡ j = cc in (0, omega (arith, same), rw (t, change_first) refl)
  from_step x xs i j false t e more =
      let h = more e in
      (suc h.0, omega (arith, h.1), rw (t, change_first) (ap (λ ys. x ∷ ys) h.2))

  from : (xs : List X) (i j : ℕ) → position_from test i xs ≡ Some j → (k : ℕ) × (j ≡ i + k) × (change_first test f xs ≡ set xs k (f (get_or xs k d)))
  from [] i j e = absurd (cc)
  from (x ∷ xs) i j e = from_step x xs i j (test x) refl e (from xs (i + 1) j)

  pub change_first_at : (xs : List X) (k : ℕ) → position test xs ≡ Some k → change_first test f xs ≡ set xs k (f (get_or xs k d))
  change_first_at xs k e =
      let h = from xs 0 k (sym (position_from-zero test xs) ∙ e) in
      let same : h.0 ≡ k = omega (arith, h.1) in
      rw same at h.2

module _ {X : Type 0} (test : X → Bool) (f : X → X) where
  none_step : (x : X) (xs : List X) (b : Bool) → test x ≡ b → list_any test (x ∷ xs) ≡ false
      → (list_any test xs ≡ false → change_first test f xs ≡ xs) → change_first test f (x ∷ xs) ≡ x ∷ xs
  none_step x xs true t e more = absurd (let true_is : true ≡ false = rw t at e in cc)
  none_step x xs false t e more = rw (t, change_first) (ap (λ ys. x ∷ ys) (more (rw t at e)))

  unchanged : (xs : List X) → list_any test xs ≡ false → change_first test f xs ≡ xs
  unchanged [] e = refl
  unchanged (x ∷ xs) e = none_step x xs (test x) refl e (unchanged xs)

  -- where there is none, nothing is changed
  pub change_first_none : (xs : List X) → position test xs ≡ None → change_first test f xs ≡ xs
  change_first_none xs e = unchanged xs (list_any-none test xs e)
