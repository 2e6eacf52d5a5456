-- How many members of a list pass a test, as the list changes.
use Rattle.std.proofs.Common.{◌≡◌, ◌≤◌, ◌+◌, ℕ, zero, suc, Bool, true, false, List, [], ◌∷◌, ◌++◌, cond, map, drop, slice_get, Some, refl, ap, ◌∙◌, arith}
use Rattle.std.specs.Prelude.{count_by, find, All}
use Rattle.std.proofs.lemmas.List.Elements.{All-head, All-tail}
use Rattle.fab_link.proofs.Owed.{count_by-append}
use Rattle.fab_model.specs.Matching.{remove_first}

abbrev pub one : Bool → ℕ
one b = cond b 1 0

pub count_cons : {X : Type 0} (p : X → Bool) (x : X) (xs : List X) → count_by p (x ∷ xs) ≡ one (p x) + count_by p xs
count_cons p x xs =
    let e : count_by p (x ∷ xs) ≡ count_by p (x ∷ []) + count_by p xs = count_by-append p (x ∷ []) xs in
    let f : count_by p (x ∷ []) ≡ 0 + one (p x) = refl in
    omega (arith, e, f)

pub count_snoc : {X : Type 0} (p : X → Bool) (xs : List X) (x : X) → count_by p (xs ++ x ∷ []) ≡ count_by p xs + one (p x)
count_snoc p xs x = let f : count_by p (x ∷ []) ≡ 0 + one (p x) = refl in omega (arith, count_by-append p xs (x ∷ []), f)

pub count_removed : {X : Type 0} (p leaves : X → Bool) (xs : List X) (y : X) → find leaves xs ≡ Some y → count_by p xs ≡ one (p y) + count_by p (remove_first leaves xs)
count_removed p leaves [] y f = absurd (cc)
count_removed p leaves (x ∷ xs) y f = step (leaves x) refl (count_removed p leaves xs y)
  where
    step : (b : Bool) → leaves x ≡ b → (find leaves xs ≡ Some y → count_by p xs ≡ one (p y) + count_by p (remove_first leaves xs)) → count_by p (x ∷ xs) ≡ one (p y) + count_by p (remove_first leaves (x ∷ xs))
    step true t later =
        let same : x ≡ y = (let e : Some x ≡ Some y = rw (t, find) at f in cc) in
        rw (t, remove_first) (count_cons p x xs ∙ ap (λ z. one (p z) + count_by p xs) same)
    step false t later =
        let more = later (rw (t, find) at f) in
        rw (t, remove_first) (omega (arith, more, count_cons p x xs, count_cons p x (remove_first leaves xs)))

pub count_same : {X : Type 0} (p q : X → Bool) (xs : List X) → ((x : X) → p x ≡ q x) → count_by p xs ≡ count_by q xs
count_same p q [] same = refl
count_same p q (x ∷ xs) same = omega (arith, count_same p q xs same, count_cons p x xs, count_cons q x xs, ap one (same x))

pub count_map : {X Y : Type 0} (p : Y → Bool) (f : X → Y) (xs : List X) → count_by p (map f xs) ≡ count_by (λ x. p (f x)) xs
count_map p f [] = refl
count_map p f (x ∷ xs) = omega (arith, count_map p f xs, count_cons p (f x) (map f xs), count_cons (λ z. p (f z)) x xs)

-- none passes where each that would is ruled out
pub count_none : {X : Type 0} (P : X → Type 0) (p : X → Bool) (xs : List X) → All P xs → ((x : X) → P x → p x ≡ false) → count_by p xs ≡ 0
count_none P p [] all none = refl
count_none P p (x ∷ xs) all none = omega (arith, count_none P p xs (All-tail P x xs all) none, count_cons p x xs, ap one (none x (All-head P x xs all)))

-- each counts as two others together
pub count_sum : {X : Type 0} (p q r : X → Bool) (xs : List X) → ((x : X) → one (p x) ≡ one (q x) + one (r x)) → count_by p xs ≡ count_by q xs + count_by r xs
count_sum p q r [] same = refl
count_sum p q r (x ∷ xs) same = omega (arith, count_sum p q r xs same, count_cons p x xs, count_cons q x xs, count_cons r x xs, same x)

pub none_dropped : {X : Type 0} (p : X → Bool) (n : ℕ) → count_by p (drop n []) ≡ 0
none_dropped p zero = refl
none_dropped p (suc n) = refl

pub count_drop : {X : Type 0} (p : X → Bool) (n : ℕ) (xs : List X) → count_by p (drop n xs) ≤ count_by p xs
count_drop p zero xs = omega arith
count_drop p (suc n) [] = omega arith
count_drop p (suc n) (x ∷ xs) = omega (arith, count_drop p n xs, count_cons p x xs)

pub count_dropped : {X : Type 0} (p : X → Bool) (n : ℕ) (xs ys : List X) → count_by p (drop n (xs ++ ys)) ≤ count_by p (drop n xs) + count_by p ys
count_dropped p zero xs ys = omega (arith, count_by-append p xs ys)
count_dropped p (suc n) [] ys = omega (arith, count_drop p (suc n) ys)
count_dropped p (suc n) (x ∷ xs) ys = count_dropped p n xs ys

pub drop_next : {X : Type 0} (n : ℕ) (xs : List X) (x : X) → slice_get xs n ≡ Some x → drop n xs ≡ x ∷ drop (suc n) xs
drop_next n [] x e = absurd (cc (e))
drop_next zero (y ∷ xs) x e = let f : y ≡ x = cc in ap (λ z. z ∷ xs) f
drop_next (suc n) (y ∷ xs) x e = drop_next n xs x e

pub found_all : {X : Type 0} (P : X → Type 0) (leaves : X → Bool) (xs : List X) (y : X) → All P xs → find leaves xs ≡ Some y → P y
found_all P leaves [] y all f = absurd (cc)
found_all P leaves (x ∷ xs) y all f = step (leaves x) refl (found_all P leaves xs y (All-tail P x xs all))
  where
    step : (b : Bool) → leaves x ≡ b → (find leaves xs ≡ Some y → P y) → P y
    step true t later = let same : x ≡ y = (let e : Some x ≡ Some y = rw (t, find) at f in cc) in rw (← same) (All-head P x xs all)
    step false t later = later (rw (t, find) at f)
