-- Tests at each number below another.
use Rattle.std.proofs.Common.{◌≡◌, ℕ, zero, suc, ◌+◌, ◌<◌, Bool, true, false, ◌&&◌, refl, ap, ◌∙◌, arith, inl, inr, add-one}
use Rattle.std.proofs.lemmas.Bool.{cases_lt}
use Rattle.fab_model.specs.Peers.{all_below}

pub below_more : (test : ℕ → Bool) (n : ℕ) → all_below test n ≡ true → test n ≡ true → all_below test (n + 1) ≡ true
below_more test n all here = rw add-one (rw (all, here) refl)

pub below_false : (test : ℕ → Bool) (n k : ℕ) → k < n → test k ≡ false → all_below test n ≡ false
below_false test zero k lt e = absurd (omega arith)
below_false test (suc n) k lt e = elim (cases_lt k n) [
  | inl before ↦ ap (λ b. b && test n) (below_false test n k before e)
  | inr behind ↦ at (all_below test n) (let same : n ≡ k = omega arith in ap test same ∙ e)
]
  where
    at : (b : Bool) → test n ≡ false → (b && test n) ≡ false
    at true f = f
    at false f = refl
