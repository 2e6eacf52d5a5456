-- Members of lists by their places.
use Rattle.std.proofs.Common.{◌≡◌, ◌<◌, ◌+◌, ℕ, zero, suc, Bool, false, List, [], ◌∷◌, ◌++◌, length, map, drop, take, Some, sym, ap, subst, ◌∙◌, arith}
use Rattle.std.specs.Prelude.{slice_get, slice_index_or, Result, Ok, Err, IfOk, OnOk}
use Rattle.std.specs.List.{All, list_any}
use Rattle.std.proofs.lemmas.List.{get_or-drop, map-append, take_more, take_all}
use Rattle.std.proofs.lemmas.Option.{slice_get_within, get_or_from_slice_get}
use Rattle.fab_base.proofs.Bools.{or_false_left as neither_left, or_false_right as neither_right}
use Rattle.fab_finish.proofs.Joining.{got}
use Rattle.fab_finish.proofs.Resting.{mapped}

-- the first of what is left is the member at its place
pub first_left : {X : Type 0} (xs left : List X) (n : ℕ) (x : X) → left ≡ drop n xs → n < length xs → x ≡ slice_index_or left 0 x → slice_get xs n ≡ Some x
first_left xs left n x is below first =
    let none : n + 0 ≡ n = omega arith in
    let at : x ≡ slice_index_or xs n x = first ∙ ap (λ zs. slice_index_or zs 0 x) is ∙ get_or-drop n xs 0 x ∙ ap (λ k. slice_index_or xs k x) none in
    got xs n x below ∙ ap Some (sym at)

-- the members of two images that stand at one place come from one
pub from_one : {X Y Z : Type 0} (f : X → Y) (g : X → Z) (xs : List X) (k : ℕ) (y : Y) (z : Z) → slice_get (map f xs) k ≡ Some y → slice_get (map g xs) k ≡ Some z → (x : X) × (slice_get xs k ≡ Some x) × (f x ≡ y) × (g x ≡ z)
from_one f g xs k y z e h =
    let a = mapped f xs k y e in
    let b = mapped g xs k z h in
    let is : Some a.0 ≡ Some b.0 = sym a.1 ∙ b.1 in
    let same : a.0 ≡ b.0 = cc in
    (a.0, a.1, a.2, ap g same ∙ b.2)

-- one more image
pub map_more : {X Y : Type 0} (f : X → Y) (xs new : List X) (x : X) (ys : List Y) (y : Y) → new ≡ xs ++ x ∷ [] → map f xs ≡ ys → f x ≡ y → map f new ≡ ys ++ y ∷ []
map_more {Y = Y} f xs new x ys y is before here =
    ap (map f) is ∙ map-append f xs (x ∷ []) ∙ ap (λ zs. zs ++ f x ∷ []) before ∙ ap (λ (z : Y). ys ++ z ∷ []) here

-- where it is Ok, what follows
pub ok_then : {X E : Type 0} (P Q : X → Type 0) → ((x : X) → P x → Q x) → (r : Result X E) → IfOk r P → IfOk r Q
ok_then P Q then (Ok x) p = then x p
ok_then P Q then (Err e) p = _

-- the first n + 1 members
pub taken_more : {X : Type 0} (xs ys new : List X) (n : ℕ) (x : X) → ys ≡ take n xs → new ≡ ys ++ x ∷ [] → slice_get xs n ≡ Some x → new ≡ take (n + 1) xs
taken_more xs ys new n x before is has =
    is ∙ ap (λ zs. zs ++ x ∷ []) before ∙ ap (λ z. take n xs ++ z ∷ []) (sym (get_or_from_slice_get xs n x x has)) ∙ sym (take_more xs n x (slice_get_within xs n x has))

pub taken_all : {X : Type 0} (xs ys : List X) (n : ℕ) → ys ≡ take n xs → n ≡ length xs → ys ≡ xs
taken_all xs ys n is all = is ∙ take_all n xs (omega (arith, all))

-- what holds of all holds of the one at a place
pub all_at : {X : Type 0} (P : X → Type 0) (xs : List X) (k : ℕ) (x : X) → All P xs → slice_get xs k ≡ Some x → P x
all_at P xs k x all has = subst P (get_or_from_slice_get xs k x x has) (all k x (slice_get_within xs k x has))

pub ok_both : {X E : Type 0} (P Q S : X → Type 0) → ((x : X) → P x → Q x → S x) → (r : Result X E) → IfOk r P → IfOk r Q → IfOk r S
ok_both P Q S then (Ok x) p q = then x p q
ok_both P Q S then (Err e) p q = _

pub ok_always : {X E : Type 0} (P : Type 0) → P → (r : Result X E) → OnOk r P
ok_always P p (Ok x) = p
ok_always P p (Err e) = _

-- where no member passes a test, the one at a place does not
pub none_at : {X : Type 0} (test : X → Bool) (xs : List X) (k : ℕ) (x : X) → list_any test xs ≡ false → slice_get xs k ≡ Some x → test x ≡ false
none_at test [] k x none has = absurd (cc)
none_at test (y ∷ ys) zero x none has = let same : y ≡ x = cc in subst (λ z. test z ≡ false) same (neither_left (test y) (list_any test ys) none)
none_at test (y ∷ ys) (suc k) x none has = none_at test ys k x (neither_right (test y) (list_any test ys) none) has
