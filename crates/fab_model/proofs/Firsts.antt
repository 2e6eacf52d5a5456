-- The first member of a list that passes a test: where it stands, what is found, and what is left without it.
use Rattle.std.proofs.Common.{◌≡◌, ℕ, suc, ◌+◌, Bool, true, false, cond, List, [], ◌∷◌, get_or, Option, Some, None, refl, sym, ap, ◌∙◌, arith}
use Rattle.std.specs.Prelude.{find, position, remove, is_some, All, IfSome}
use Rattle.std.specs.List.{list_any, position_from}
use Rattle.std.proofs.lemmas.Iterator.Adapters.{position_from-zero}
use Rattle.std.proofs.lemmas.List.Elements.{All-tail, All-cons as All-onto}
use Rattle.fab_model.specs.Matching.{remove_first}

-- what is known of the first member that passes the test, k places behind the start
pub record IsFirst {X : Type 0} (test : X → Bool) (xs : List X) (k : ℕ) (d : X) : Type 0 where
  pub found : find test xs ≡ Some (get_or xs k d)
  pub rest : remove_first test xs ≡ remove xs k

-- ---- where it stands

module _ {X : Type 0} (test : X → Bool) (d : X) where
  from_step : (x : X) (xs : List X) (i j : ℕ) (b : Bool) → test x ≡ b → cond b (Some i) (position_from test (i + 1) xs) ≡ Some j
      → (position_from test (i + 1) xs ≡ Some j → (k : ℕ) × (j ≡ i + 1 + k) × IsFirst test xs k d) → (k : ℕ) × (j ≡ i + k) × IsFirst test (x ∷ xs) k d
  from_step x xs i j true t e more = let same : i ≡ j = cc in (0, omega (arith, same), record { found = rw t refl; rest = rw (t, remove_first) refl })
  from_step x xs i j false t e more =
      let h = more e in
      (suc h.0, omega (arith, h.1), record { found = rw t h.2.found; rest = rw (t, remove_first) (ap (λ ys. x ∷ ys) h.2.rest) })

  from : (xs : List X) (i j : ℕ) → position_from test i xs ≡ Some j → (k : ℕ) × (j ≡ i + k) × IsFirst test xs k d
  from [] i j e = absurd (cc)
  from (x ∷ xs) i j e = from_step x xs i j (test x) refl e (from xs (i + 1) j)

  pub first_at : (xs : List X) (k : ℕ) → position test xs ≡ Some k → IsFirst test xs k d
  first_at xs k e =
      let h = from xs 0 k (sym (position_from-zero test xs) ∙ e) in
      let same : h.0 ≡ k = omega (arith, h.1) in
      rw same at h.2

module _ {X : Type 0} (test : X → Bool) where
  -- the first member that passes is removed by its place
  pub remove_first_at : (xs : List X) (k : ℕ) → position test xs ≡ Some k → remove_first test xs ≡ remove xs k
  remove_first_at [] k e = absurd (cc)
  remove_first_at (x ∷ xs) k e = let first = first_at test x (x ∷ xs) k e in first.rest

  -- ---- where there is none

  none_step : (x : X) (xs : List X) (i : ℕ) (b : Bool) → test x ≡ b → cond b (Some i) (position_from test (i + 1) xs) ≡ None
      → (position_from test (i + 1) xs ≡ None → list_any test xs ≡ false) → list_any test (x ∷ xs) ≡ false
  none_step x xs i true t e more = absurd (cc)
  none_step x xs i false t e more = rw t (more e)

  none_from : (xs : List X) (i : ℕ) → position_from test i xs ≡ None → list_any test xs ≡ false
  none_from [] i e = refl
  none_from (x ∷ xs) i e = none_step x xs i (test x) refl e (none_from xs (i + 1))

  -- where none has a place, none passes
  pub list_any-none : (xs : List X) → position test xs ≡ None → list_any test xs ≡ false
  list_any-none xs e = none_from xs 0 (sym (position_from-zero test xs) ∙ e)

  missed_step : (x : X) (xs : List X) (b : Bool) → test x ≡ b → cond b (Some x) (find test xs) ≡ None → (find test xs ≡ None → list_any test xs ≡ false) → list_any test (x ∷ xs) ≡ false
  missed_step x xs true t e more = absurd (cc)
  missed_step x xs false t e more = rw t (more e)

  -- where none is found, none passes
  pub list_any-not_found : (xs : List X) → find test xs ≡ None → list_any test xs ≡ false
  list_any-not_found [] e = refl
  list_any-not_found (x ∷ xs) e = missed_step x xs (test x) refl e (list_any-not_found xs)

  stays_step : (x : X) (xs : List X) (b : Bool) → test x ≡ b → list_any test (x ∷ xs) ≡ false
      → (list_any test xs ≡ false → (find test xs ≡ None) × (remove_first test xs ≡ xs)) → (find test (x ∷ xs) ≡ None) × (remove_first test (x ∷ xs) ≡ x ∷ xs)
  stays_step x xs true t e more = absurd (let true_is : true ≡ false = rw t at e in cc)
  stays_step x xs false t e more = let h = more (rw t at e) in (rw t h.0, rw (t, remove_first) (ap (λ ys. x ∷ ys) h.1))

  -- where none passes, none is found and none is removed
  stays : (xs : List X) → list_any test xs ≡ false → (find test xs ≡ None) × (remove_first test xs ≡ xs)
  stays [] e = (refl, refl)
  stays (x ∷ xs) e = stays_step x xs (test x) refl e (stays xs)

  pub remove_first-none : (xs : List X) → list_any test xs ≡ false → remove_first test xs ≡ xs
  remove_first-none xs e = (stays xs e).1

  pub first_none : (xs : List X) → position test xs ≡ None → (find test xs ≡ None) × (remove_first test xs ≡ xs)
  first_none xs e = stays xs (list_any-none xs e)

  -- where none is found, none is removed
  pub not_found : (xs : List X) → find test xs ≡ None → remove_first test xs ≡ xs
  not_found xs e = remove_first-none xs (list_any-not_found xs e)

  some_step : (xs : List X) (o : Option ℕ) → position test xs ≡ o → is_some o ≡ is_some (find test xs)
  some_step [] None e = refl
  some_step (x ∷ xs) None e = ap is_some (sym ((first_none (x ∷ xs) e).0))
  some_step [] (Some k) e = absurd (cc)
  some_step (x ∷ xs) (Some k) e = let first = first_at test x (x ∷ xs) k e in ap is_some (sym (first.found))

  -- a member has a place exactly where it is found
  pub is_some-position : (xs : List X) → is_some (position test xs) ≡ is_some (find test xs)
  is_some-position xs = some_step xs (position test xs) refl

-- ---- what holds of all

module _ {X : Type 0} (test : X → Bool) (P : X → Type 0) where
  rest_step : (x : X) (xs : List X) (b : Bool) → test x ≡ b → P x → All P xs → All P (remove_first test xs) → All P (remove_first test (x ∷ xs))
  rest_step x xs true t p all more = rw (t, remove_first) all
  rest_step x xs false t p all more = rw (t, remove_first) (All-onto P x (remove_first test xs) p more)

  -- it holds of those that are left
  pub All-remove_first : (xs : List X) → All P xs → All P (remove_first test xs)
  All-remove_first [] all = all
  All-remove_first (x ∷ xs) all = rest_step x xs (test x) refl (all 0 x (omega arith)) (All-tail P x xs all) (All-remove_first xs (All-tail P x xs all))

  found_step : (x : X) (xs : List X) (b : Bool) → P x → IfSome (find test xs) P → IfSome (cond b (Some x) (find test xs)) P
  found_step x xs true p more = p
  found_step x xs false p more = more

  -- and of the one that is found
  pub IfSome-find : (xs : List X) → All P xs → IfSome (find test xs) P
  IfSome-find [] all = tt
  IfSome-find (x ∷ xs) all = found_step x xs (test x) (all 0 x (omega arith)) (IfSome-find xs (All-tail P x xs all))
