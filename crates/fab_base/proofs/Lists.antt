-- Lists: members, what is written into them, and their parts.
use Rattle.std.proofs.Common.{Bool, List, None, Option, Some, [], ap, append-nil, append_assoc, arith, cond, drop, false, filter, get_or, inl, inr, length, not, refl, replicate, set, slice_get, subst, suc, sym, take, true, zero, ℕ, ◌++◌, ◌+◌, ◌<◌, ◌||◌, ◌∙◌, ◌∷◌, ◌≡◌, ◌≢◌, ◌≤◌, ◌⊎◌}
use Rattle.std.proofs.Math.Seq.{drop-cons}
use Rattle.std.proofs.lemmas.Bool.{and_parts}
use Rattle.std.proofs.lemmas.List.{drop_all, take_all}
use Rattle.std.proofs.lemmas.List.Elements.{All-contains, Contains-append_left, Contains-push}
use Rattle.std.proofs.lemmas.List.Sums.{sum_by-append, sum_by-cons}
use Rattle.std.proofs.lemmas.Option.{get_or_from_slice_get, none-some, same_Some, slice_get_within}
use Rattle.std.specs.List.{All, list_all, list_any}
use Rattle.std.specs.Prelude.{IfSome, count_by, find, is_some, option_to_list}
use mathlib.Core.List.{IsPrefix}

pub set_same : {X : Type 0} (xs : List X) (i : ℕ) (d : X) → set xs i (get_or xs i d) ≡ xs
set_same [] i d = refl
set_same (x ∷ xs) zero d = refl
set_same (x ∷ xs) (suc i) d = ap (λ ys. x ∷ ys) (set_same xs i d)

-- what a list has, a longer one has too
pub prefix_get : {X : Type 0} (xs rest : List X) (k : ℕ) (x : X) → slice_get xs k ≡ Some x → slice_get (xs ++ rest) k ≡ Some x
prefix_get [] rest k x e = absurd (cc)
prefix_get (y ∷ xs) rest zero x e = e
prefix_get (y ∷ xs) rest (suc k) x e = prefix_get xs rest k x e

pub list_all_at : {X : Type 0} (test : X → Bool) (xs : List X) (k : ℕ) (x : X) → list_all test xs ≡ true → slice_get xs k ≡ Some x → test x ≡ true
list_all_at test [] k x all e = absurd (cc)
list_all_at test (y ∷ xs) zero x all e = let f : y ≡ x = cc in ap test (sym f) ∙ (and_parts _ _ all).0
list_all_at test (y ∷ xs) (suc k) x all e = list_all_at test xs k x (and_parts _ _ all).1 e

pub all_the_same : {X : Type 0} (n k : ℕ) (x : X) → get_or (replicate n x) k x ≡ x
all_the_same zero k x = refl
all_the_same (suc n) zero x = refl
all_the_same (suc n) (suc k) x = all_the_same n k x

pub count_by-append : {X : Type 0} (p : X → Bool) (xs ys : List X) → count_by p (xs ++ ys) ≡ count_by p xs + count_by p ys
count_by-append p xs ys = sum_by-append (λ x. cond (p x) 1 0) xs ys

pub cond_more : (b : Bool) (k : ℕ) (a t : List ℕ) → cond b (k ∷ (a ++ t)) (a ++ t) ≡ cond b (k ∷ a) a ++ t
cond_more true k a t = refl
cond_more false k a t = refl

pub get_some : {X : Type 0} (xs : List X) (k : ℕ) → k < length xs → (x : X) × (slice_get xs k ≡ Some x)
get_some [] k h = absurd (let no : k < 0 = h in omega arith)
get_some (x ∷ xs) zero h = (x, refl)
get_some (x ∷ xs) (suc k) h = get_some xs k (omega arith)

pub get_last : {X : Type 0} (xs : List X) (y : X) → slice_get (xs ++ y ∷ []) (length xs) ≡ Some y
get_last [] y = refl
get_last (z ∷ zs) y = get_last zs y

pub get_set_same : {X : Type 0} (xs : List X) (i : ℕ) (x y : X) → slice_get (set xs i x) i ≡ Some y → x ≡ y
get_set_same [] i x y e = absurd (none-some y e)
get_set_same (z ∷ zs) zero x y e = same_Some x y e
get_set_same (z ∷ zs) (suc i) x y e = get_set_same zs i x y e

pub get_set_other : {X : Type 0} (xs : List X) (i j : ℕ) (x : X) → j ≢ i → slice_get (set xs i x) j ≡ slice_get xs j
get_set_other [] i j x ne = refl
get_set_other (z ∷ zs) zero zero x ne = absurd (ne refl)
get_set_other (z ∷ zs) zero (suc j) x ne = refl
get_set_other (z ∷ zs) (suc i) zero x ne = refl
get_set_other (z ∷ zs) (suc i) (suc j) x ne = get_set_other zs i j x (λ e. ne (ap suc e))

pub prefix_then : {A : Type 0} (xs ys zs : List A) → IsPrefix xs ys → IsPrefix ys zs → IsPrefix xs zs
prefix_then {A = A} xs ys zs p q = (p.0 ++ q.0, sym (append_assoc xs p.0 q.0) ∙ ap (λ (z : List A). z ++ q.0) p.1 ∙ q.1)

-- a slice of a list, written back
pub written_back : {X : Type 0} (old new : List X) (n : ℕ) → length new ≡ length old → n ≡ length old → take n (new ++ drop (length new) old) ≡ new
written_back {X = X} old new n same e = ap (λ (z : List X). take n (new ++ z)) (drop_all (length new) old (omega (arith, same))) ∙ ap (take n) (append-nil new) ∙ take_all n new (omega (arith, same, e))

pub get_seam : {X : Type 0} (xs : List X) (x : X) (ys : List X) → slice_get (xs ++ x ∷ ys) (length xs) ≡ Some x
get_seam [] x ys = refl
get_seam (z ∷ zs) x ys = get_seam zs x ys

pub length-filter-le : {X : Type 0} (keep : X → Bool) (xs : List X) → length (filter keep xs) ≤ length xs
length-filter-le keep [] = omega arith
length-filter-le keep (y ∷ xs) = go (keep y) (length-filter-le keep xs)
  where
    go : (b : Bool) → length (filter keep xs) ≤ length xs → length (cond b (y ∷ filter keep xs) (filter keep xs)) ≤ suc (length xs)
    go true ih = omega (arith, ih)
    go false ih = omega (arith, ih)

-- an id that has a value is one of the table
pub some_within : {T : Type 0} (cells : List (Option T)) (id : ℕ) (x : T) → get_or cells id None ≡ Some x → id < length cells
some_within [] id x e = absurd (cc)
some_within (c ∷ cells) zero x e = omega arith
some_within (c ∷ cells) (suc id) x e = let more = some_within cells id x e in omega arith

pub count_others : {X : Type 0} (test : X → Bool) (xs : List X) → count_by test xs + count_by (λ x. not (test x)) xs ≡ length xs
count_others test [] = refl
count_others test (x ∷ xs) = by (test x) refl (count_others test xs)
  where
    by : (b : Bool) → test x ≡ b → count_by test xs + count_by (λ x. not (test x)) xs ≡ length xs → count_by test (x ∷ xs) + count_by (λ x. not (test x)) (x ∷ xs) ≡ length (x ∷ xs)
    by true e more = let a = sum_by-cons (λ x. cond (test x) 1 0) x xs in let b = sum_by-cons (λ x. cond (not (test x)) 1 0) x xs in rw e (omega (arith, more, rw e at a, rw e at b))
    by false e more = let a = sum_by-cons (λ x. cond (test x) 1 0) x xs in let b = sum_by-cons (λ x. cond (not (test x)) 1 0) x xs in rw e (omega (arith, more, rw e at a, rw e at b))

pub none_past : {X : Type 0} (xs : List X) (k : ℕ) → slice_get xs k ≡ None → length xs ≤ k
none_past [] k none = omega arith
none_past (x ∷ xs) zero none = absurd (cc)
none_past (x ∷ xs) (suc k) none = let more = none_past xs k none in omega (arith, more)

pub any_after : {X : Type 0} (test : X → Bool) (x : X) (xs : List X) → list_any test (x ∷ xs) ≡ true → test x ≡ false → list_any test xs ≡ true
any_after test x xs is none = (let both : (test x || list_any test xs) ≡ true = is in rw none at both)

-- what is found where something passes
pub found : {X : Type 0} (test : X → Bool) (xs : List X) → list_any test xs ≡ true → (x : X) × (find test xs ≡ Some x) × (test x ≡ true)
found test [] is = absurd (cc)
found {X = X} test (x ∷ xs) is = by (test x) refl (λ none. found test xs (any_after test x xs is none))
  where
    by : (b : Bool) → test x ≡ b → (test x ≡ false → (y : X) × (find test xs ≡ Some y) × (test y ≡ true)) → (y : X) × (find test (x ∷ xs) ≡ Some y) × (test y ≡ true)
    by true e more = (x, rw e refl, e)
    by false e more = rw e (more e)

pub drop_here : {X : Type 0} (xs : List X) (k : ℕ) (x : X) → slice_get xs k ≡ Some x → drop k xs ≡ x ∷ drop (k + 1) xs
drop_here xs k x at =
    let e : k + 1 ≡ suc k = omega arith in
    rw e (drop-cons xs k x (slice_get_within xs k x at) ∙ ap (λ y. y ∷ drop (suc k) xs) (get_or_from_slice_get xs k x x at))

pub drop_first : {X : Type 0} (xs : List X) (k : ℕ) (x : X) → slice_get xs k ≡ Some x → drop k xs ≡ x ∷ drop (suc k) xs
drop_first [] k x e = absurd (cc)
drop_first (y ∷ xs) zero x e = let same : y ≡ x = cc in ap (λ z. z ∷ xs) same
drop_first (y ∷ xs) (suc k) x e = drop_first xs k x e

pub get_push : {X : Type 0} (xs : List X) (y x : X) (i : ℕ) → slice_get (xs ++ y ∷ []) i ≡ Some x → (slice_get xs i ≡ Some x) ⊎ ((i ≡ length xs) × (x ≡ y))
get_push [] y x zero e = inr (refl, let same : y ≡ x = cc in sym same)
get_push [] y x (suc i) e = absurd (cc)
get_push (z ∷ zs) y x zero e = inl e
get_push (z ∷ zs) y x (suc i) e = elim (get_push zs y x i e) [ inl h ↦ inl h | inr h ↦ inr (let n = h.0 in omega (arith, n), h.1) ]

-- what holds of each holds of one in their midst
pub in_midst : {A : Type 0} (P : A → Type 0) (xs zs ys : List A) (x : A) → (xs ++ x ∷ []) ++ zs ≡ ys → All P ys → P x
in_midst P xs zs ys x e all = All-contains P ((xs ++ x ∷ []) ++ zs) x (subst (All P) (sym e) all) (Contains-append_left (xs ++ x ∷ []) zs x (Contains-push xs x))

pub both_empty : {X : Type 0} (xs ys : List X) → xs ++ ys ≡ [] → (xs ≡ []) × (ys ≡ [])
both_empty [] ys e = (refl, e)
both_empty (x ∷ xs) ys e = cc

pub take_one : {X : Type 0} (xs : List X) (i : ℕ) (x : X) → slice_get xs i ≡ Some x → take (i + 1) xs ≡ take i xs ++ x ∷ []
take_one [] i x e = absurd (cc)
take_one (y ∷ xs) zero x e = let f : y ≡ x = cc in ap (λ z. z ∷ []) f
take_one (y ∷ xs) (suc i) x e = let f : suc i + 1 ≡ suc (i + 1) = omega arith in ap (λ m. take m (y ∷ xs)) f ∙ ap (λ zs. y ∷ zs) (take_one xs i x e)

pub drop_get : {X : Type 0} (xs : List X) (k : ℕ) (y : X) (ys : List X) → drop k xs ≡ y ∷ ys → slice_get xs k ≡ Some y
drop_get [] zero y ys e = absurd (cc)
drop_get [] (suc k) y ys e = absurd (cc)
drop_get (x ∷ xs) zero y ys e = cc
drop_get (x ∷ xs) (suc k) y ys e = drop_get xs k y ys e

pub append_same : {X : Type 0} (xs ys zs : List X) → xs ++ ys ≡ xs ++ zs → ys ≡ zs
append_same [] ys zs e = e
append_same (x ∷ xs) ys zs e = append_same xs ys zs (cc)

any_by : {X : Type 0} (test : X → Bool) (x : X) (xs : List X) (b : Bool) → test x ≡ b → list_any test xs ≡ is_some (find test xs) → (b || list_any test xs) ≡ is_some (cond b (Some x) (find test xs))
any_by test x xs true e ih = refl
any_by test x xs false e ih = ih

pub list_any-find : {X : Type 0} (test : X → Bool) (xs : List X) → list_any test xs ≡ is_some (find test xs)
list_any-find test [] = refl
list_any-find test (x ∷ xs) = any_by test x xs (test x) refl (list_any-find test xs)

-- what holds of each member holds of each that is left without the last, and of the last
pub rest_is : {X : Type 0} (F : X → Type 0) (old new : List X) (o : Option X) → old ≡ new ++ option_to_list o → ((k : ℕ) (x : X) → slice_get old k ≡ Some x → F x) → (k : ℕ) (x : X) → slice_get new k ≡ Some x → F x
rest_is {X = X} F old new o is all k x e = all k x (ap (λ (z : List X). slice_get z k) is ∙ prefix_get new (option_to_list o) k x e)

pub last_is : {X : Type 0} (F : X → Type 0) (old new : List X) (o : Option X) → old ≡ new ++ option_to_list o → ((k : ℕ) (x : X) → slice_get old k ≡ Some x → F x) → IfSome o F
last_is F old new None is all = tt
last_is {X = X} F old new (Some x) is all = all (length new) x (ap (λ (z : List X). slice_get z (length new)) is ∙ get_last new x)
