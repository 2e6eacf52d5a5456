-- Lists that `joined` makes, as a whole.
use Rattle.std.proofs.Common.{Bool, List, Option, [], ap, ap₂, append-nil, append_assoc, arith, false, refl, subst, suc, sym, true, zero, ℕ, ◌++◌, ◌+◌, ◌||◌, ◌<◌, ◌∙◌, ◌∷◌, ◌≡◌, ◌≤◌, ◌⊎◌, inl, inr}
use Rattle.std.proofs.lemmas.Bool.{and_from, cases_lt}
use Rattle.std.proofs.lemmas.List.Elements.{filter_map-append}
use Rattle.std.proofs.lemmas.List.Folds.{list_all-append, list_any-append}
use Rattle.std.specs.List.{list_all, list_any}
use Rattle.std.specs.Prelude.{filter_map}
use Rattle.fab_answer.proofs.Lists.{Both, Each, In, always, both_append, each_append, in_back, in_front, never}
use Rattle.fab_workloads.specs.Lines.{joined}

pub joined_all : {X : Type 0} (test : X → Bool) (n : ℕ) (f : ℕ → List X) → ((k : ℕ) → list_all test (f k) ≡ true) → list_all test (joined n f) ≡ true
joined_all test zero f each = refl
joined_all test (suc n) f each = list_all-append test (joined n f) (f (n + 1)) ∙ and_from _ _ (joined_all test n f each) (each (n + 1))

pub joined_each : {X : Type 0} (P : X → Type 0) (n : ℕ) (f : ℕ → List X) → ((k : ℕ) → 1 ≤ k → k ≤ n → Each P (f k)) → Each P (joined n f)
joined_each P zero f each = always
joined_each P (suc n) f each = each_append P (joined n f) (f (n + 1)) (joined_each P n f (λ k low high. each k low (omega (arith, high)))) (each (n + 1) (omega arith) (omega arith))

pub joined_filter_map : {X Y : Type 0} (h : X → Option Y) (n : ℕ) (f : ℕ → List X) → filter_map h (joined n f) ≡ joined n (λ k. filter_map h (f k))
joined_filter_map h zero f = refl
joined_filter_map {X} {Y} h (suc n) f = filter_map-append h (joined n f) (f (n + 1)) ∙ ap (λ (ys : List Y). ys ++ filter_map h (f (n + 1))) (joined_filter_map h n f)

pub joined_same : {X : Type 0} (n : ℕ) (f g : ℕ → List X) → ((k : ℕ) → 1 ≤ k → k ≤ n → f k ≡ g k) → joined n f ≡ joined n g
joined_same zero f g same = refl
joined_same (suc n) f g same = ap₂ (λ xs ys. xs ++ ys) (joined_same n f g (λ k low high. same k low (omega (arith, high)))) (same (n + 1) (omega arith) (omega arith))

-- the first ones, and what follows the part of a number
pub joined_split : {X : Type 0} (n i : ℕ) (f : ℕ → List X) → i < n → (back : List X) × (joined n f ≡ joined i f ++ (f (i + 1) ++ back))
joined_split zero i f lt = absurd (omega (arith, lt))
joined_split {X} (suc n) i f lt = go (cases_lt i n) (joined_split n i f)
  where
    go : (i < n) ⊎ (n ≤ i) → (i < n → (back : List X) × (joined n f ≡ joined i f ++ (f (i + 1) ++ back)))
        → (back : List X) × (joined (suc n) f ≡ joined i f ++ (f (i + 1) ++ back))
    go (inl less) split =
        let ih = split less in
        (ih.0 ++ f (n + 1), ap (λ (xs : List X). xs ++ f (n + 1)) ih.1 ∙ append_assoc (joined i f) (f (i + 1) ++ ih.0) (f (n + 1)) ∙ ap (λ (xs : List X). joined i f ++ xs) (append_assoc (f (i + 1)) ih.0 (f (n + 1))))
    go (inr more) split = let same : n ≡ i = omega (arith, lt, more) in
        ([], ap (λ k. joined k f ++ f (k + 1)) same ∙ ap (λ (xs : List X). joined i f ++ xs) (sym (append-nil (f (i + 1)))))

pub joined_none : {X : Type 0} (test : X → Bool) (n : ℕ) (f : ℕ → List X) → ((k : ℕ) → 1 ≤ k → k ≤ n → list_any test (f k) ≡ false) → list_any test (joined n f) ≡ false
joined_none test zero f each = refl
joined_none test (suc n) f each = list_any-append test (joined n f) (f (n + 1))
    ∙ ap₂ (λ a b. a || b) (joined_none test n f (λ k low high. each k low (omega (arith, high)))) (each (n + 1) (omega arith) (omega arith))

pub in_joined : {X : Type 0} (x : X) (n k : ℕ) (f : ℕ → List X) → 1 ≤ k → k ≤ n → In x (f k) → In x (joined n f)
in_joined x zero k f low high i = absurd (omega (arith, low, high))
in_joined {X} x (suc n) k f low high i = go (cases_lt n k) (λ before. in_joined x n k f low before i)
  where
    go : (n < k) ⊎ (k ≤ n) → (k ≤ n → In x (joined n f)) → In x (joined n f ++ f (n + 1))
    go (inl past) earlier = in_back x (joined n f) (f (n + 1)) (subst (λ j. In x (f j)) (let e : k ≡ n + 1 = omega (arith, past, high) in e) i)
    go (inr before) earlier = in_front x (joined n f) (f (n + 1)) (earlier before)

pub both_joined : {X Y : Type 0} (P : X → Y → Type 0) (n : ℕ) (f : ℕ → X) (g : ℕ → Y) → ((k : ℕ) → 1 ≤ k → k ≤ n → P (f k) (g k))
    → Both P (joined n (λ k. f k ∷ [])) (joined n (λ k. g k ∷ []))
both_joined P zero f g each = always
both_joined P (suc n) f g each = both_append P (joined n (λ k. f k ∷ [])) (joined n (λ k. g k ∷ [])) (f (n + 1)) (g (n + 1))
    (both_joined P n f g (λ k low high. each k low (omega (arith, high)))) (each (n + 1) (omega arith) (omega arith))

pub joined_empty : {X : Type 0} (n : ℕ) (f : ℕ → List X) → ((k : ℕ) → f k ≡ []) → joined n f ≡ []
joined_empty zero f none = refl
joined_empty (suc n) f none = ap₂ (λ xs ys. xs ++ ys) (joined_empty n f none) (none (n + 1))

both_lists_append : {X Y : Type 0} (P : X → Y → Type 0) (xs us : List X) (ys vs : List Y) → Both P xs ys → Both P us vs → Both P (xs ++ us) (ys ++ vs)
both_lists_append P [] us [] vs both more = more
both_lists_append P [] us (y ∷ ys) vs both more = never both
both_lists_append P (x ∷ xs) us [] vs both more = never both
both_lists_append P (x ∷ xs) us (y ∷ ys) vs both more = (both.0, both_lists_append P xs us ys vs both.1 more)

pub both_lists : {X Y : Type 0} (P : X → Y → Type 0) (n : ℕ) (f : ℕ → List X) (g : ℕ → List Y) → ((k : ℕ) → 1 ≤ k → k ≤ n → Both P (f k) (g k))
    → Both P (joined n f) (joined n g)
both_lists P zero f g each = always
both_lists P (suc n) f g each = both_lists_append P (joined n f) (f (n + 1)) (joined n g) (g (n + 1))
    (both_lists P n f g (λ k low high. each k low (omega (arith, high)))) (each (n + 1) (omega arith) (omega arith))
