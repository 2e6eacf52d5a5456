-- Lists that are made member by member beside another.
use Rattle.std.proofs.Common.{◌≡◌, ℕ, ◌+◌, ◌<◌, List, [], ◌∷◌, ◌++◌, map, length, take, get_or, sym, ap, ◌∙◌, subst, inl, inr}
use mathlib.Core.List.{map-append}
use Rattle.std.specs.Prelude.{Some, slice_get}
use Rattle.std.proofs.lemmas.List.{take_more}
use Rattle.std.proofs.lemmas.Option.{get_or_from_slice_get}
use Rattle.fab_queue.proofs.Opening.{snoc_get}

-- one more of the images of the first members
pub image_more : {X Y : Type 0} (f : X → Y) (xs : List X) (ys : List Y) (n : ℕ) (x : X) (y : Y) → ys ≡ map f (take n xs) → n < length xs → x ≡ get_or xs n x → y ≡ f x → ys ++ y ∷ [] ≡ map f (take (n + 1) xs)
image_more {X = X} f xs ys n x y so near is fy = (λ i. so i ++ fy i ∷ []) ∙ sym (map-append f (take n xs) (x ∷ [])) ∙ ap (λ (z : X). map f (take n xs ++ z ∷ [])) is ∙ ap (map f) (sym (take_more xs n x near))

-- the same of a relation between the members at one place
pub pairs_more : {X Y : Type 0} (F : X → Y → Type 0) (xs : List X) (ys : List Y) (n : ℕ) (x : X) (y : Y) → length ys ≡ n → ((k : ℕ) (p : X) (q : Y) → slice_get xs k ≡ Some p → slice_get ys k ≡ Some q → F p q) → x ≡ get_or xs n x → F x y
    → (k : ℕ) (p : X) (q : Y) → slice_get xs k ≡ Some p → slice_get (ys ++ y ∷ []) k ≡ Some q → F p q
pairs_more {X = X} {Y = Y} F xs ys n x y long all is fits k p q at_p at_q = elim (snoc_get ys y k q at_q) [
  | inl h ↦ all k p q at_p h
  | inr h ↦ let at : k ≡ n = h.0 ∙ long in let same : x ≡ p = is ∙ ap (λ (z : ℕ). get_or xs z x) (sym at) ∙ get_or_from_slice_get xs k p x at_p in subst (λ (z : X × Y). F z.0 z.1) (λ i. (same i, h.1 i)) fits
]
