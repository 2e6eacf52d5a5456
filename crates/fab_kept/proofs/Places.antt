-- What stands at places, some of which are empty: one more, the first that passes taken out, and empty ones at the end.
use Rattle.std.proofs.Common.{◌≡◌, ℕ, zero, suc, ◌+◌, ◌-◌, ◌<◌, Bool, true, false, cond, List, [], ◌∷◌, ◌++◌, length, length-append, get_or, set, take, Option, Some, None, refl, sym, ap, subst, ◌∙◌, arith}
use Rattle.std.specs.Prelude.{find, count_by, slice_get}
use Rattle.std.proofs.lemmas.List.Sums.{sum_by-cons}
use Rattle.fab_model.specs.Matching.{remove_first}
use Rattle.fab_kept.specs.Places.{somes, passes, places_from, is_blank, ends_empty}

-- ---- one more

pub somes_push : {X : Type 0} (xs : List (Option X)) (x : X) → somes (xs ++ Some x ∷ []) ≡ somes xs ++ x ∷ []
somes_push [] x = refl
somes_push (None ∷ xs) x = somes_push xs x
somes_push (Some y ∷ xs) x = ap (λ ys. y ∷ ys) (somes_push xs x)

behind : (b : Bool) (n : ℕ) (ps qs more : List ℕ) → qs ≡ ps ++ more → cond b (n ∷ qs) qs ≡ cond b (n ∷ ps) ps ++ more
behind true n ps qs more e = ap (λ xs. n ∷ xs) e
behind false n ps qs more e = e

module _ {X : Type 0} (test : X → Bool) where
  abbrev pub last_place : X → ℕ → List ℕ
  last_place x n = cond (test x) (n ∷ []) []

  pub places_push : (n : ℕ) (xs : List (Option X)) (x : X) → places_from test n (xs ++ Some x ∷ []) ≡ places_from test n xs ++ last_place x (n + length xs)
  places_push n [] x = ap (last_place x) (let same : n ≡ n + 0 = omega arith in same)
  places_push n (y ∷ xs) x =
      let number : n + 1 + length xs ≡ n + suc (length xs) = omega arith in
      behind (passes test y) n (places_from test (n + 1) xs) (places_from test (n + 1) (xs ++ Some x ∷ [])) (last_place x (n + suc (length xs)))
      (places_push (n + 1) xs x ∙ ap (λ m. places_from test (n + 1) xs ++ last_place x m) number)

-- ---- the first that passes

module _ {X : Type 0} (test : X → Bool) where
  -- the first that passes stands i places behind the start, and is taken out
  pub record IsFirst (n : ℕ) (xs : List (Option X)) (i : ℕ) (rest : List ℕ) : Type 0 where
    pub within : i < length xs
    pub item : X
    pub at : (d : Option X) → get_or xs i d ≡ Some item
    pub found : find test (somes xs) ≡ Some item
    pub left : remove_first test (somes xs) ≡ somes (set xs i None)
    pub own : places_from test n (set xs i None) ≡ rest
    pub others : (other : X → Bool) → ((x : X) → test x ≡ true → other x ≡ false) → places_from other n (set xs i None) ≡ places_from other n xs

  abbrev Placed : ℕ → List (Option X) → ℕ → List ℕ → Type 0
  Placed n xs place rest = (i : ℕ) × (place ≡ n + i) × IsFirst n xs i rest

  here : (x : X) (xs : List (Option X)) (n place : ℕ) (rest : List ℕ) (b : Bool) → test x ≡ b → cond b (n ∷ places_from test (n + 1) xs) (places_from test (n + 1) xs) ≡ place ∷ rest
      → (places_from test (n + 1) xs ≡ place ∷ rest → Placed (n + 1) xs place rest) → Placed n (Some x ∷ xs) place rest
  here x xs n place rest true t e more =
      let same : n ≡ place = cc in
      let same_rest : places_from test (n + 1) xs ≡ rest = cc in (
        0,
        omega (arith, same),
        record {
          within = omega arith;
          item = x;
          at = λ d. refl;
          found = rw t refl;
          left = rw (t, remove_first) refl;
          own = same_rest;
          others = λ other apart. rw (apart x t) refl;
        },
      )
  here x xs n place rest false t e more =
      let h = more e in (
        suc h.0,
        omega (arith, h.1),
        record {
          within = let within = h.2.within in omega (arith, within);
          item = h.2.item;
          at = h.2.at;
          found = rw t h.2.found;
          left = rw (t, remove_first) (ap (λ ys. x ∷ ys) h.2.left);
          own = rw t h.2.own;
          others = λ other apart. ap (λ ps. cond (other x) (n ∷ ps) ps) (h.2.others other apart);
        },
      )

  first_from : (n : ℕ) (xs : List (Option X)) (place : ℕ) (rest : List ℕ) → places_from test n xs ≡ place ∷ rest → Placed n xs place rest
  first_from n [] place rest e = absurd (cc)
  first_from n (None ∷ xs) place rest e =
      let h = first_from (n + 1) xs place rest e in (
        suc h.0,
        omega (arith, h.1),
        record {
          within = let within = h.2.within in omega (arith, within);
          item = h.2.item;
          at = h.2.at;
          found = h.2.found;
          left = h.2.left;
          own = h.2.own;
          others = h.2.others;
        },
      )
  first_from n (Some x ∷ xs) place rest e = here x xs n place rest (test x) refl e (first_from (n + 1) xs place rest)

  pub first_place : (xs : List (Option X)) (place : ℕ) (rest : List ℕ) → places_from test 0 xs ≡ place ∷ rest → IsFirst 0 xs place rest
  first_place xs place rest e =
      let h = first_from 0 xs place rest e in
      let same : h.0 ≡ place = omega (arith, h.1) in
      rw same at h.2

  -- ---- where none passes

  missing : (x : X) (xs : List (Option X)) (n : ℕ) (b : Bool) → test x ≡ b → cond b (n ∷ places_from test (n + 1) xs) (places_from test (n + 1) xs) ≡ []
      → (places_from test (n + 1) xs ≡ [] → find test (somes xs) ≡ None) → cond b (Some x) (find test (somes xs)) ≡ None
  missing x xs n true t e more = absurd (cc)
  missing x xs n false t e more = more e

  pub none_passes : (n : ℕ) (xs : List (Option X)) → places_from test n xs ≡ [] → find test (somes xs) ≡ None
  none_passes n [] e = refl
  none_passes n (None ∷ xs) e = none_passes (n + 1) xs e
  none_passes n (Some x ∷ xs) e = missing x xs n (test x) refl e (none_passes (n + 1) xs)

-- ---- an empty place at the end

pub somes_blank : {X : Type 0} (xs : List (Option X)) → somes (xs ++ None ∷ []) ≡ somes xs
somes_blank [] = refl
somes_blank (None ∷ xs) = somes_blank xs
somes_blank (Some x ∷ xs) = ap (λ ys. x ∷ ys) (somes_blank xs)

pub places_blank : {X : Type 0} (test : X → Bool) (n : ℕ) (xs : List (Option X)) → places_from test n (xs ++ None ∷ []) ≡ places_from test n xs
places_blank test n [] = refl
places_blank test n (x ∷ xs) = ap (λ ps. cond (passes test x) (n ∷ ps) ps) (places_blank test (n + 1) xs)

blank_at : {X : Type 0} (xs : List (Option X)) (n : ℕ) → is_blank (slice_get xs n) ≡ true → length xs ≡ suc n → xs ≡ take n xs ++ None ∷ []
blank_at [] n e l = absurd (cc)
blank_at (None ∷ []) zero e l = refl
blank_at (Some x ∷ []) zero e l = absurd (cc)
blank_at (x ∷ y ∷ xs) zero e l = absurd (omega (arith, l))
blank_at (x ∷ xs) (suc n) e l = ap (λ ys. x ∷ ys) (blank_at xs n e (omega (arith, l)))

some_end : {X : Type 0} (xs : List (Option X)) → ends_empty xs ≡ true → 0 < length xs
some_end [] e = absurd (cc)
some_end (x ∷ xs) e = omega arith

-- the last one is empty, and leaves
module _ {X : Type 0} (xs ys : List (Option X)) (m : ℕ) (empty : ends_empty xs ≡ true) (count : m ≡ length xs) (popped : ys ≡ take (m - 1) xs) where
  whole : xs ≡ ys ++ None ∷ []
  whole =
      let some = some_end xs empty in
      let same : length xs - 1 ≡ m - 1 = omega (arith, count) in
      let more : length xs ≡ suc (m - 1) = omega (arith, count, some) in
      blank_at xs (m - 1) (subst (λ n. is_blank (slice_get xs n) ≡ true) same empty) more ∙ ap (λ zs. zs ++ None ∷ []) (sym popped)

  pub trimmed_somes : somes ys ≡ somes xs
  trimmed_somes = sym (somes_blank ys) ∙ ap (λ zs. somes zs) (sym whole)

  pub trimmed_places : (test : X → Bool) → places_from test 0 ys ≡ places_from test 0 xs
  trimmed_places test = sym (places_blank test 0 ys) ∙ ap (λ zs. places_from test 0 zs) (sym whole)

  pub trimmed_fewer : length ys < length xs
  trimmed_fewer =
      let one : length xs ≡ length ys + 1 = ap length whole ∙ length-append ys (None ∷ []) in
      omega (arith, one)

-- ---- counts

zero_more : (n : ℕ) → 0 + n ≡ n
zero_more n = omega arith

-- as many pass at the places as among what stands there
pub count_somes : {X : Type 0} (test : X → Bool) (xs : List (Option X)) → count_by (passes test) xs ≡ count_by test (somes xs)
count_somes test [] = refl
count_somes test (None ∷ xs) = sum_by-cons (λ y. cond (passes test y) 1 0) None xs ∙ zero_more (count_by (passes test) xs) ∙ count_somes test xs
count_somes test (Some x ∷ xs) =
    sum_by-cons (λ y. cond (passes test y) 1 0) (Some x) xs ∙ ap (λ n. cond (test x) 1 0 + n) (count_somes test xs) ∙ sym (sum_by-cons (λ y. cond (test y) 1 0) x (somes xs))
