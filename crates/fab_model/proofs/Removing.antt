-- A list without the first of those that pass a test.
use Rattle.std.proofs.Common.{Bool, List, [], arith, false, length, refl, true, ◌<◌, ◌∷◌, ◌≡◌, ◌≤◌}
use Rattle.std.specs.List.{list_any}
use Rattle.fab_base.proofs.Lists.{any_after}
use Rattle.fab_model.specs.Matching.{remove_first}

pub remove_shorter : {X : Type 0} (test : X → Bool) (xs : List X) → list_any test xs ≡ true → length (remove_first test xs) < length xs
remove_shorter test [] is = absurd (cc)
remove_shorter {X = X} test (x ∷ xs) is = by (test x) (λ none. remove_shorter test xs (any_after test x xs is none))
  where
    by : (b : Bool) → (b ≡ false → length (remove_first test xs) < length xs) → length (let ys : List X = elim b [ true ↦ xs | false ↦ x ∷ remove_first test xs ] in ys) < length (x ∷ xs)
    by true less = omega arith
    by false less = (let l = less refl in omega (arith, l))

pub length-remove_first-le : {X : Type 0} (test : X → Bool) (xs : List X) → length (remove_first test xs) ≤ length xs
length-remove_first-le test [] = omega arith
length-remove_first-le {X} test (x ∷ xs) = go (test x) (length-remove_first-le test xs)
  where
    go : (b : Bool) → length (remove_first test xs) ≤ length xs → length {A = X} (elim b [ true ↦ xs | false ↦ x ∷ remove_first test xs ]) ≤ length (x ∷ xs)
    go true le = omega arith
    go false le = omega (arith, le)

pub remove_here : {X : Type 0} (test : X → Bool) (x : X) (xs : List X) → test x ≡ true → remove_first test (x ∷ xs) ≡ xs
remove_here test x xs passes = rw (passes, remove_first) refl
