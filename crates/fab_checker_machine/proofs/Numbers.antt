-- The first number that passes a test.
use Rattle.std.proofs.Common.{◌≡◌, ℕ, zero, suc, ◌+◌, ◌<◌, Bool, true, false, [], ◌∷◌, Some, None, refl, sym, ap, ◌∙◌, arith, add-one, inl, inr}
use Rattle.std.specs.Prelude.{find}
use Rattle.std.proofs.lemmas.List.Folds.{find-append}
use Rattle.std.proofs.lemmas.Bool.{cases_lt}
use Rattle.fab_model.specs.Calls.{upto}

module _ (test : ℕ → Bool) where
  none_next : (k : ℕ) → find test (upto k) ≡ None → test k ≡ false → find test (upto (suc k)) ≡ None
  none_next k none fails = find-append test (upto k) (k ∷ []) ∙ rw (none, fails) refl

  pub none_more : (k : ℕ) → find test (upto k) ≡ None → test k ≡ false → find test (upto (k + 1)) ≡ None
  none_more k none fails = rw add-one (none_next k none fails)

  here : (n k : ℕ) → k ≡ n → find test (upto k) ≡ None → test k ≡ true → find test (upto (suc n)) ≡ Some k
  here n k same none passes =
      let none' : find test (upto n) ≡ None = rw (← same) none in
      let passes' : test n ≡ true = rw (← same) passes in
      find-append test (upto n) (n ∷ []) ∙ rw (none', passes') (ap Some (sym same))

  earlier : (n k : ℕ) → find test (upto n) ≡ Some k → find test (upto (suc n)) ≡ Some k
  earlier n k found = find-append test (upto n) (n ∷ []) ∙ rw found refl

  pub found_below : (n k : ℕ) → find test (upto k) ≡ None → test k ≡ true → k < n → find test (upto n) ≡ Some k
  found_below zero k none passes lt = absurd (omega arith)
  found_below (suc n) k none passes lt = elim (cases_lt k n) [
    | inl before ↦ earlier n k (found_below n k none passes before)
    | inr behind ↦ here n k (omega arith) none passes
  ]
