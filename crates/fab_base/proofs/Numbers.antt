-- Numbers: the same or not, within and beyond.
use Rattle.std.proofs.Common.{arith, eqb, false, inl, inr, max, min, sym, true, ℕ, ◌+◌, ◌<◌, ◌==◌, ◌∙◌, ◌≡◌, ◌≢◌, ◌≤◌, ◌⊎◌}
use Rattle.std.proofs.lemmas.Bool.{cases_eq, eq-eqb}
use Rattle.std.proofs.lemmas.Bool.Decides.{nat_tests}
use Rattle.std.specs.Prelude.{nat_le}
use Rattle.fab_base.specs.Counts.{Rose}

pub same_number : (t : ℕ) → (t == t) ≡ true
same_number t = grind (arith, nat_tests)

pub other_number : (t q : ℕ) → t ≢ q → (t == q) ≡ false
other_number t q differ = grind (arith, nat_tests)

pub numbers_differ : (a b : ℕ) → (a == b) ≡ false → a ≢ b
numbers_differ a b e same = let yes : (a == b) ≡ true = eq-eqb a b same in let no : true ≡ false = sym yes ∙ e in cc

pub le_same : (a b : ℕ) → b ≡ a → a ≤ b
le_same a b e = omega (arith, e)

pub le_is : (most n : ℕ) → nat_le most n ≡ true → most ≤ n
le_is most n is = grind (arith, nat_tests, is)

pub le_not : (a b : ℕ) → nat_le a b ≡ false → b < a
le_not a b e = grind (arith, nat_tests, e)

pub eqb_other : (j k : ℕ) → eqb j k ≡ false → eqb k j ≡ false
eqb_other j k e = grind (arith, nat_tests)

pub max_next : (g j : ℕ) → j ≡ g + 1 → j ≡ max g j
max_next g j e = omega arith

pub min_within : (m n i : ℕ) → i ≡ min m n → (m ≤ i) ⊎ (n ≤ i)
min_within m n i is = grind arith

-- a count that rose between two others that never fall
pub rose_later : (a b c : ℕ) → a ≤ b → Rose b c → Rose a c
rose_later a b c le (inl less) = inl (omega (arith, le, less))
rose_later a b c le (inr last) = elim (cases_eq a b) [
  | inl same ↦ inr (same ∙ last.0, last.1)
  | inr other ↦ (let e = last.0 in inl (omega (arith, le, other, e)))
]
