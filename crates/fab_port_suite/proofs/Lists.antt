-- Members of a list: of one of two, and the last of some.
use Rattle.std.proofs.Common.{◌≡◌, ℕ, zero, suc, List, [], ◌∷◌, ◌++◌, length, sym, refl, ap, ◌∙◌, subst, arith, length-append, Some}
use Rattle.std.specs.Prelude.{slice_get}
use Rattle.std.proofs.lemmas.Option.{none-some, same_Some}

-- what holds of each of the two
pub of_pair : {X : Type 0} (F : ℕ → X → Type 0) (a b : X) → F 0 a → F 1 b → (k : ℕ) (x : X) → slice_get (a ∷ b ∷ []) k ≡ Some x → F k x
of_pair F a b fa fb zero x e = subst (F 0) (same_Some a x e) fa
of_pair F a b fa fb (suc zero) x e = subst (F 1) (same_Some b x e) fb
of_pair F a b fa fb (suc (suc k)) x e = absurd (none-some x e)

at_second : {X : Type 0} (xs : List X) (a b : X) → length ((xs ++ a ∷ []) ++ b ∷ []) ≡ 2 → (xs ++ a ∷ []) ++ b ∷ [] ≡ a ∷ b ∷ []
at_second [] a b e = refl
at_second (x ∷ xs) a b e = absurd (let l = length-append (xs ++ a ∷ []) (b ∷ []) in let m = length-append xs (a ∷ []) in let n : suc (length ((xs ++ a ∷ []) ++ b ∷ [])) ≡ 2 = e in omega arith)

-- the last two of two are all
pub last_two : {X : Type 0} (xs rest left : List X) (a b : X) → length xs ≡ 2 → xs ≡ rest ++ b ∷ [] → rest ≡ left ++ a ∷ [] → (slice_get xs 0 ≡ Some a) × (slice_get xs 1 ≡ Some b)
last_two xs rest left a b count is is' = let whole : xs ≡ (left ++ a ∷ []) ++ b ∷ [] = is ∙ ap (λ l. l ++ b ∷ []) is' in
    let all : xs ≡ a ∷ b ∷ [] = whole ∙ at_second left a b (ap length (sym whole) ∙ count) in (ap (λ l. slice_get l 0) all, ap (λ l. slice_get l 1) all)
