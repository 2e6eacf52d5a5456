-- Steps around the ring of ranks.
--     IsAhead p r d a      rank a is d steps on from rank r
use Rattle.std.proofs.Common.{◌≡◌, ℕ, ◌+◌, ◌-◌, ◌<◌, ◌≤◌, ◌⊎◌, inl, inr, Bool, true, false, if◌then◌else◌, refl, arith}
use Rattle.std.specs.Prelude.{nat_lt}
use Rattle.std.proofs.lemmas.Bool.{ltb-true, ltb-false}
use Rattle.fab_topology.specs.Rounds.{ahead, behind}

abbrev pub IsAhead : ℕ → ℕ → ℕ → ℕ → Type 0
IsAhead p r d a = (r + d ≡ a) ⊎ (r + d ≡ a + p)

module _ (p r d : ℕ) (there : r < p) (short : d ≤ p) where
  pub ahead_is : IsAhead p r d (ahead p r d)
  ahead_is = by (nat_lt r (p - d)) refl
    where
      by : (b : Bool) → nat_lt r (p - d) ≡ b → IsAhead p r d (if b then r + d else r - (p - d))
      by true is = inl refl
      by false is = let far = ltb-false r (p - d) is in inr (omega arith)

  pub ahead_below : ahead p r d < p
  ahead_below = by (nat_lt r (p - d)) refl
    where
      by : (b : Bool) → nat_lt r (p - d) ≡ b → (if b then r + d else r - (p - d)) < p
      by true is = let near = ltb-true r (p - d) is in omega arith
      by false is = omega arith

  pub behind_is : IsAhead p (behind p r d) d r
  behind_is = by (nat_lt r d) refl
    where
      by : (b : Bool) → nat_lt r d ≡ b → IsAhead p (if b then r + (p - d) else r - d) d r
      by true is = inr (omega arith)
      by false is = let far = ltb-false r d is in inl (omega arith)

  pub behind_below : behind p r d < p
  behind_below = by (nat_lt r d) refl
    where
      by : (b : Bool) → nat_lt r d ≡ b → (if b then r + (p - d) else r - d) < p
      by true is = let near = ltb-true r d is in omega arith
      by false is = omega arith

pub same_end : (p r d a b : ℕ) → a < p → b < p → IsAhead p r d a → IsAhead p r d b → a ≡ b
same_end p r d a b x y (inl e) (inl f) = omega arith
same_end p r d a b x y (inl e) (inr f) = omega arith
same_end p r d a b x y (inr e) (inl f) = omega arith
same_end p r d a b x y (inr e) (inr f) = omega arith

pub same_start : (p r s d a : ℕ) → r < p → s < p → IsAhead p r d a → IsAhead p s d a → r ≡ s
same_start p r s d a x y (inl e) (inl f) = omega arith
same_start p r s d a x y (inl e) (inr f) = omega arith
same_start p r s d a x y (inr e) (inl f) = omega arith
same_start p r s d a x y (inr e) (inr f) = omega arith

pub same_steps : (p r d e a : ℕ) → d < p → e < p → IsAhead p r d a → IsAhead p r e a → d ≡ e
same_steps p r d e a x y (inl f) (inl g) = omega arith
same_steps p r d e a x y (inl f) (inr g) = omega arith
same_steps p r d e a x y (inr f) (inl g) = omega arith
same_steps p r d e a x y (inr f) (inr g) = omega arith

-- v steps on from the root, and d more
pub further : (p root v r d t : ℕ) → root < p → v + d < p → IsAhead p v root r → IsAhead p r d t → IsAhead p (v + d) root t
further p root v r d t x y (inl e) (inl f) = inl (omega arith)
further p root v r d t x y (inl e) (inr f) = inr (omega arith)
further p root v r d t x y (inr e) (inl f) = inr (omega arith)
further p root v r d t x y (inr e) (inr f) = absurd (let no : 1 ≤ 0 = omega arith in omega arith)

-- v steps on from the root, and d of these back
pub nearer : (p root v r d s : ℕ) → root < p → r < p → d ≤ v → IsAhead p v root r → IsAhead p s d r → s < p → IsAhead p (v - d) root s
nearer p root v r d s x y z (inl e) (inl f) below = inl (omega arith)
nearer p root v r d s x y z (inl e) (inr f) below = absurd (let no : 1 ≤ 0 = omega arith in omega arith)
nearer p root v r d s x y z (inr e) (inl f) below = inr (omega arith)
nearer p root v r d s x y z (inr e) (inr f) below = inl (omega arith)

-- v steps on from t is u; from the one that is d of these steps on it is v - d
pub rest : (p t v u d s : ℕ) → u < p → s < p → d ≤ v → IsAhead p t v u → IsAhead p t d s → IsAhead p s (v - d) u
rest p t v u d s x y z (inl e) (inl f) = inl (omega arith)
rest p t v u d s x y z (inl e) (inr f) = absurd (let no : 1 ≤ 0 = omega arith in omega arith)
rest p t v u d s x y z (inr e) (inl f) = inr (omega arith)
rest p t v u d s x y z (inr e) (inr f) = inl (omega arith)
