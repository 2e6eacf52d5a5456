-- Two lists whose members belong together, place by place: they grow, are turned and lose their members together.
use Rattle.std.proofs.Common.{◌≡◌, ◌≢◌, inl, inr, ℕ, Bool, true, false, List, [], ◌∷◌, ◌++◌, map, Some, None, refl, sym, subst, ◌∙◌, arith}
use Rattle.std.specs.Prelude.{find, Contains}
use Rattle.std.specs.List.{AllZip}
use Rattle.fab_model.specs.Matching.{remove_first}
use Rattle.fab_core.specs.Lent.{AreOthers, AreSingle}
use Rattle.fab_settling.proofs.Listing.{contains_cases, contains_here, contains_later}

module _ {A B : Type 0} (R : A → B → Type 0) where
  pub zip_each : (S : A → B → Type 0) → ((x : A) (y : B) → R x y → S x y) → (xs : List A) (ys : List B) → AllZip R xs ys → AllZip S xs ys
  zip_each S each [] [] z = tt
  zip_each S each [] (b ∷ ys) z = absurd z
  zip_each S each (a ∷ xs) [] z = absurd z
  zip_each S each (a ∷ xs) (b ∷ ys) z = (each a b z.0, zip_each S each xs ys z.1)

  pub zip_turned : (S : A → B → Type 0) (f : A → A) → ((x : A) (y : B) → R x y → S (f x) y) → (xs : List A) (ys : List B) → AllZip R xs ys → AllZip S (map f xs) ys
  zip_turned S f each [] [] z = tt
  zip_turned S f each [] (b ∷ ys) z = absurd z
  zip_turned S f each (a ∷ xs) [] z = absurd z
  zip_turned S f each (a ∷ xs) (b ∷ ys) z = (each a b z.0, zip_turned S f each xs ys z.1)

  pub zip_there : (xs : List A) (ys : List B) → AllZip R xs ys → (y : B) → Contains ys y → (x : A) × R x y
  zip_there [] [] z y there = (let lt = there.1 in absurd (omega (arith, lt)))
  zip_there [] (b ∷ ys) z y there = absurd z
  zip_there (a ∷ xs) [] z y there = absurd z
  zip_there (a ∷ xs) (b ∷ ys) z y there = elim (contains_cases b y ys there) [ inl same ↦ (a, subst (λ (y : B). R a y) same z.0) | inr more ↦ zip_there xs ys z.1 y more ]

  -- of two tests that say the same, the first members that pass belong together
  module _ (s : A → Bool) (t : B → Bool) (same : (x : A) (y : B) → R x y → s x ≡ t y) where
    pub zip_found : (xs : List A) (ys : List B) → AllZip R xs ys → (x : A) → find s xs ≡ Some x → (y : B) × (find t ys ≡ Some y) × R x y
    zip_found [] [] z x e = absurd (cc)
    zip_found [] (b ∷ ys) z x e = absurd z
    zip_found (a ∷ xs) [] z x e = absurd z
    zip_found (a ∷ xs) (b ∷ ys) z x e = by (s a) refl (λ rest. zip_found xs ys z.1 x rest)
      where
        by : (v : Bool) → s a ≡ v → (find s xs ≡ Some x → (y : B) × (find t ys ≡ Some y) × R x y) → (y : B) × (find t (b ∷ ys) ≡ Some y) × R x y
        by true is more =
            let has : t b ≡ true = sym (same a b z.0) ∙ is in
            let both : Some a ≡ Some x = rw is at e in
            let one : a ≡ x = cc in (b, rw has refl, subst (λ (x : A). R x b) one z.0)
        by false is more =
            let no : t b ≡ false = sym (same a b z.0) ∙ is in
            let rest = more (rw is at e) in (rest.0, rw no rest.1, rest.2)

    pub zip_missed : (xs : List A) (ys : List B) → AllZip R xs ys → find s xs ≡ None → find t ys ≡ None
    zip_missed [] [] z e = refl
    zip_missed [] (b ∷ ys) z e = absurd z
    zip_missed (a ∷ xs) [] z e = absurd z
    zip_missed (a ∷ xs) (b ∷ ys) z e = by (s a) refl (λ rest. zip_missed xs ys z.1 rest)
      where
        by : (v : Bool) → s a ≡ v → (find s xs ≡ None → find t ys ≡ None) → find t (b ∷ ys) ≡ None
        by true is more = let no : Some a ≡ None = rw is at e in absurd (cc)
        by false is more = let no : t b ≡ false = sym (same a b z.0) ∙ is in rw no (more (rw is at e))

-- ---- members of different calls

pub others_fewer_calls : (test : ℕ × ℕ → Bool) (call : ℕ) (ms : List (ℕ × ℕ)) → AreOthers call ms → AreOthers call (remove_first test ms)
others_fewer_calls test call [] o = o
others_fewer_calls test call (m ∷ ms) o = by (test m) refl (others_fewer_calls test call ms o.1)
  where
    by : (b : Bool) → test m ≡ b → AreOthers call (remove_first test ms) → AreOthers call (remove_first test (m ∷ ms))
    by true is more = rw (is, remove_first) o.1
    by false is more = rw (is, remove_first) (o.0, more)

pub single_fewer : (test : ℕ × ℕ → Bool) (ms : List (ℕ × ℕ)) → AreSingle ms → AreSingle (remove_first test ms)
single_fewer test [] o = o
single_fewer test (m ∷ ms) o = by (test m) refl (single_fewer test ms o.1)
  where
    by : (b : Bool) → test m ≡ b → AreSingle (remove_first test ms) → AreSingle (remove_first test (m ∷ ms))
    by true is more = rw (is, remove_first) o.1
    by false is more = rw (is, remove_first) (others_fewer_calls test m.1 ms o.0, more)

others_push : (call : ℕ) (ms : List (ℕ × ℕ)) (m : ℕ × ℕ) → AreOthers call ms → m.1 ≢ call → AreOthers call (ms ++ m ∷ [])
others_push call [] m o other = (other, tt)
others_push call (x ∷ ms) m o other = (o.0, others_push call ms m o.1 other)

pub single_push : (ms : List (ℕ × ℕ)) (m : ℕ × ℕ) → AreSingle ms → ((x : ℕ × ℕ) → Contains ms x → m.1 ≢ x.1) → AreSingle (ms ++ m ∷ [])
single_push [] m o other = (tt, tt)
single_push (x ∷ ms) m o other = (others_push x.1 ms m o.0 (other x (contains_here x ms)), single_push ms m o.1 (λ y there. other y (contains_later x y ms there)))

-- ---- the first member that passes leaves, and each other one is turned

module _ {A : Type 0} (R S : A → ℕ × ℕ → Type 0) (s : A → Bool) (t : ℕ × ℕ → Bool) (f : A → A)
    (same : (x : A) (m : ℕ × ℕ) → R x m → s x ≡ t m) (one : (m n : ℕ × ℕ) → t m ≡ true → t n ≡ true → n.1 ≡ m.1) (kept : (x : A) (m : ℕ × ℕ) → R x m → t m ≡ false → S (f x) m) where
  passes_not : (m n : ℕ × ℕ) → t m ≡ true → n.1 ≢ m.1 → t n ≡ false
  passes_not m n its other = by (t n) refl
    where
      by : (b : Bool) → t n ≡ b → t n ≡ false
      by true is = absurd (other (one m n its is))
      by false is = is

  zip_rest : (m : ℕ × ℕ) → t m ≡ true → (xs : List A) (ms : List (ℕ × ℕ)) → AllZip R xs ms → AreOthers m.1 ms → AllZip S (map f xs) ms
  zip_rest m its [] [] z o = tt
  zip_rest m its [] (n ∷ ms) z o = absurd z
  zip_rest m its (x ∷ xs) [] z o = absurd z
  zip_rest m its (x ∷ xs) (n ∷ ms) z o = (kept x n z.0 (passes_not m n its o.0), zip_rest m its xs ms z.1 o.1)

  pub zip_read : (xs : List A) (ms : List (ℕ × ℕ)) → AllZip R xs ms → AreSingle ms → AllZip S (map f (remove_first s xs)) (remove_first t ms)
  zip_read [] [] z o = tt
  zip_read [] (m ∷ ms) z o = absurd z
  zip_read (x ∷ xs) [] z o = absurd z
  zip_read (x ∷ xs) (m ∷ ms) z o = by (t m) refl (zip_read xs ms z.1 o.1)
    where
      by : (b : Bool) → t m ≡ b → AllZip S (map f (remove_first s xs)) (remove_first t ms) → AllZip S (map f (remove_first s (x ∷ xs))) (remove_first t (m ∷ ms))
      by true is more = let has : s x ≡ true = same x m z.0 ∙ is in rw (has, is, remove_first) (zip_rest m is xs ms z.1 o.0)
      by false is more = let no : s x ≡ false = same x m z.0 ∙ is in rw (no, is, remove_first) (kept x m z.0 is, more)
