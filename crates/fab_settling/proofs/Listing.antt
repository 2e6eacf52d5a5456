-- Lists: what joins them and leaves them, and the first member of which something is told.
use Rattle.std.proofs.Common.{◌≡◌, ◌⊎◌, inl, inr, ℕ, zero, suc, ◌+◌, ◌<◌, ◌≤◌, Bool, true, false, List, [], ◌∷◌, ◌++◌, length, map, take, drop, get_or, set, Option, Some, None, refl, sym, ap, subst, ◌∙◌, arith}
use Rattle.std.specs.Prelude.{slice_get, slice_index_or, Contains}
pub use Rattle.fab_base.proofs.Lists.{get_last, get_push}
use Rattle.fab_model.specs.Matching.{remove_first}
use Rattle.fab_model.specs.Peers.{first_some}

pub get_kept : {X : Type 0} (xs : List X) (y x : X) (i : ℕ) → slice_get xs i ≡ Some x → slice_get (xs ++ y ∷ []) i ≡ Some x
get_kept [] y x i e = absurd (cc)
get_kept (z ∷ zs) y x zero e = e
get_kept (z ∷ zs) y x (suc i) e = get_kept zs y x i e

module _ {X Y : Type 0} (f : X → Option Y) where
  pub first_push : (xs : List X) (y : X) → f y ≡ None → first_some f (xs ++ y ∷ []) ≡ first_some f xs
  first_push [] y e = rw e refl
  first_push (x ∷ xs) y e = by (f x) refl (first_push xs y e)
    where
      by : (o : Option Y) → f x ≡ o → first_some f (xs ++ y ∷ []) ≡ first_some f xs → first_some f (x ∷ xs ++ y ∷ []) ≡ first_some f (x ∷ xs)
      by None is more = rw (is, first_some) more
      by (Some z) is more = rw (is, first_some) refl

  pub first_pushed : (xs : List X) (y : X) (b : Y) → f y ≡ Some b → first_some f xs ≡ None → first_some f (xs ++ y ∷ []) ≡ Some b
  first_pushed [] y b e none = rw e refl
  first_pushed (x ∷ xs) y b e none = by (f x) refl (λ rest. first_pushed xs y b e rest)
    where
      by : (o : Option Y) → f x ≡ o → (first_some f xs ≡ None → first_some f (xs ++ y ∷ []) ≡ Some b) → first_some f (x ∷ xs ++ y ∷ []) ≡ Some b
      by None is more = rw (is, first_some) (more (rw (is, first_some) at none))
      by (Some z) is more = absurd (let no : Some z ≡ None = rw (is, first_some) at none in cc)

  pub first_kept : (xs : List X) (y : X) (b : Y) → first_some f xs ≡ Some b → first_some f (xs ++ y ∷ []) ≡ Some b
  first_kept [] y b e = absurd (cc)
  first_kept (x ∷ xs) y b e = by (f x) refl (λ rest. first_kept xs y b rest)
    where
      by : (o : Option Y) → f x ≡ o → (first_some f xs ≡ Some b → first_some f (xs ++ y ∷ []) ≡ Some b) → first_some f (x ∷ xs ++ y ∷ []) ≡ Some b
      by None is more = rw (is, first_some) (more (rw (is, first_some) at e))
      by (Some z) is more = rw (is, first_some) (rw (is, first_some) at e)

  pub first_none : (xs : List X) (i : ℕ) (x : X) → first_some f xs ≡ None → slice_get xs i ≡ Some x → f x ≡ None
  first_none [] i x none e = absurd (cc)
  first_none (y ∷ ys) i x none e = by (f y) refl i e (λ j rest at. first_none ys j x rest at)
    where
      by : (o : Option Y) → f y ≡ o → (i : ℕ) → slice_get (y ∷ ys) i ≡ Some x → ((j : ℕ) → first_some f ys ≡ None → slice_get ys j ≡ Some x → f x ≡ None) → f x ≡ None
      by None is zero e more = let same : y ≡ x = cc in ap f (sym same) ∙ is
      by None is (suc i) e more = more i (rw (is, first_some) at none) e
      by (Some z) is i e more = absurd (let no : Some z ≡ None = rw (is, first_some) at none in cc)

  pub first_all : (xs : List X) → ((i : ℕ) (x : X) → slice_get xs i ≡ Some x → f x ≡ None) → first_some f xs ≡ None
  first_all [] none = refl
  first_all (x ∷ xs) none = rw (none 0 x refl, first_some) (first_all xs (λ i y e. none (suc i) y e))

module _ {X : Type 0} where
  pub contains_here : (x : X) (xs : List X) → Contains (x ∷ xs) x
  contains_here x xs = (0, omega arith, refl)

  pub contains_later : (y x : X) (ys : List X) → Contains ys x → Contains (y ∷ ys) x
  contains_later y x ys c = (suc c.0, (let lt = c.1 in omega (arith, lt)), c.2)

  pub contains_cases : (y x : X) (ys : List X) → Contains (y ∷ ys) x → (y ≡ x) ⊎ Contains ys x
  contains_cases y x ys c = by c.0 c.1 c.2
    where
      by : (k : ℕ) → k < length (y ∷ ys) → slice_index_or (y ∷ ys) k x ≡ x → (y ≡ x) ⊎ Contains ys x
      by zero lt e = inl e
      by (suc k) lt e = inr (k, omega (arith, lt), e)

  module _ (test : X → Bool) where
    pub contains_fewer : (xs : List X) (x : X) → Contains (remove_first test xs) x → Contains xs x
    contains_fewer [] x c = c
    contains_fewer (y ∷ ys) x c = by (test y) refl (λ rest. contains_fewer ys x rest)
      where
        by : (b : Bool) → test y ≡ b → (Contains (remove_first test ys) x → Contains ys x) → Contains (y ∷ ys) x
        by true is rest = contains_later y x ys (subst (λ (zs : List X). Contains zs x) (let e : remove_first test (y ∷ ys) ≡ ys = rw (is, remove_first) refl in e) c)
        by false is rest = elim (contains_cases y x (remove_first test ys) (subst (λ (zs : List X). Contains zs x) (let e : remove_first test (y ∷ ys) ≡ y ∷ remove_first test ys = rw (is, remove_first) refl in e) c)) [
          | inl same ↦ subst (λ (z : X). Contains (y ∷ ys) z) same (contains_here y ys)
          | inr more ↦ contains_later y x ys (rest more)
        ]

    pub contains_kept : (xs : List X) (x : X) → Contains xs x → test x ≡ false → Contains (remove_first test xs) x
    contains_kept [] x c other = c
    contains_kept (y ∷ ys) x c other = by (test y) refl (contains_cases y x ys c) (λ rest. contains_kept ys x rest other)
      where
        by : (b : Bool) → test y ≡ b → (y ≡ x) ⊎ Contains ys x → (Contains ys x → Contains (remove_first test ys) x) → Contains (remove_first test (y ∷ ys)) x
        by true is (inl same) rest = absurd (let no : true ≡ false = sym is ∙ ap test same ∙ other in cc)
        by true is (inr more) rest = rw (is, remove_first) more
        by false is (inl same) rest = rw (is, remove_first) (subst (λ (z : X). Contains (y ∷ remove_first test ys) z) same (contains_here y (remove_first test ys)))
        by false is (inr more) rest = rw (is, remove_first) (contains_later y x (remove_first test ys) (rest more))

-- ---- each member is turned, from the first one on

module _ {X : Type 0} (f : X → X) where
  abbrev pub turned_to : List X → ℕ → List X
  turned_to xs k = map f (take k xs) ++ drop k xs

  pub turned_step : (xs : List X) (k : ℕ) (d : X) → k < length xs → set (turned_to xs k) k (f (get_or (turned_to xs k) k d)) ≡ turned_to xs (suc k)
  turned_step [] k d lt = absurd (omega (arith, lt))
  turned_step (x ∷ xs) zero d lt = refl
  turned_step (x ∷ xs) (suc k) d lt = ap (λ (ys : List X). f x ∷ ys) (turned_step xs k d (omega (arith, lt)))

  pub turned_by : (xs items : List X) (k : ℕ) (x y : X) → items ≡ turned_to xs k → k < length xs → x ≡ get_or items k x → y ≡ f x → set items k y ≡ turned_to xs (k + 1)
  turned_by xs items k x y is lt at e =
      let next : suc k ≡ k + 1 = omega arith in
      ap (λ (z : X). set items k z) (e ∙ ap f at) ∙ ap (λ (zs : List X). set zs k (f (get_or zs k x))) is ∙ turned_step xs k x lt ∙ ap (turned_to xs) next

  pub turned_all : (xs : List X) (k : ℕ) → length xs ≤ k → turned_to xs k ≡ map f xs
  turned_all [] zero le = refl
  turned_all [] (suc k) le = refl
  turned_all (x ∷ xs) zero le = absurd (omega (arith, le))
  turned_all (x ∷ xs) (suc k) le = ap (λ (ys : List X). f x ∷ ys) (turned_all xs k (omega (arith, le)))
