-- Two lists whose members belong together one by one: pairs of ids and what they stand for, and what stands under these ids.
use Rattle.std.proofs.Common.{◌≡◌, ◌≢◌, ◌⊎◌, inl, inr, ℕ, suc, ◌+◌, ◌==◌, Bool, true, false, List, [], ◌∷◌, ◌++◌, length, map, Option, Some, None, refl, sym, ap, ◌∙◌, arith}
use Rattle.std.specs.Prelude.{find, is_some}
use Rattle.std.specs.List.{AllZip}
use Rattle.std.proofs.lemmas.Bool.{eqb-true, ne_eqb}
use Rattle.fab_base.proofs.Numbers.{numbers_differ as eqb-false}
use Rattle.fab_model.specs.Matching.{remove_first}
use Rattle.fab_match.specs.Matcher.{first_id, has_id}

-- two numbers are equal or not
pub same_or : (a b : ℕ) → (a ≡ b) ⊎ (a ≢ b)
same_or a b = by_test (a == b) refl
  where
    by_test : (t : Bool) → (a == b) ≡ t → (a ≡ b) ⊎ (a ≢ b)
    by_test true e = inl (eqb-true a b e)
    by_test false e = inr (eqb-false a b e)

module _ {A B : Type 0} (R : A → B → Type 0) where
  pub tied_length : (xs : List A) (ys : List B) → AllZip R xs ys → length xs ≡ length ys
  tied_length [] [] t = refl
  tied_length [] (y ∷ ys) t = absurd t
  tied_length (x ∷ xs) [] t = absurd t
  tied_length (x ∷ xs) (y ∷ ys) t = ap suc (tied_length xs ys t.1)

  pub tied_push : (xs : List A) (ys : List B) (x : A) (y : B) → AllZip R xs ys → R x y → AllZip R (xs ++ x ∷ []) (ys ++ y ∷ [])
  tied_push [] [] x y t r = (r, tt)
  tied_push [] (z ∷ ys) x y t r = absurd t
  tied_push (w ∷ xs) [] x y t r = absurd t
  tied_push (w ∷ xs) (z ∷ ys) x y t r = (t.0, tied_push xs ys x y t.1 r)

-- each member's tie may become another one
pub retied : {A B : Type 0} (R S : A → B → Type 0) (xs : List A) (ys : List B) → ((x : A) (y : B) → R x y → S x y) → AllZip R xs ys → AllZip S xs ys
retied R S [] [] more t = tt
retied R S [] (y ∷ ys) more t = absurd t
retied R S (x ∷ xs) [] more t = absurd t
retied R S (x ∷ xs) (y ∷ ys) more t = (more x y t.0, retied R S xs ys more t.1)

pub retied_map : {A B : Type 0} (R S : A → B → Type 0) (f : B → B) (xs : List A) (ys : List B) → ((x : A) (y : B) → R x y → S x (f y)) → AllZip R xs ys → AllZip S xs (map f ys)
retied_map R S f [] [] more t = tt
retied_map R S f [] (y ∷ ys) more t = absurd t
retied_map R S f (x ∷ xs) [] more t = absurd t
retied_map R S f (x ∷ xs) (y ∷ ys) more t = (more x y t.0, retied_map R S f xs ys more t.1)

-- two ties of each member at once
pub tied_both : {A B : Type 0} (R S : A → B → Type 0) (xs : List A) (ys : List B) → AllZip R xs ys → AllZip S xs ys → AllZip (λ x y. R x y × S x y) xs ys
tied_both R S [] [] t u = tt
tied_both R S [] (y ∷ ys) t u = absurd t
tied_both R S (x ∷ xs) [] t u = absurd t
tied_both R S (x ∷ xs) (y ∷ ys) t u = ((t.0, u.0), tied_both R S xs ys t.1 u.1)

module _ {X B : Type 0} (R : ℕ × X → B → Type 0) where
  -- an id that no tied pair has is new
  pub tied_fresh : (id : ℕ) (xs : List (ℕ × X)) (ys : List B) → ((p : ℕ × X) (y : B) → R p y → p.0 ≢ id) → AllZip R xs ys → has_id id xs ≡ false
  tied_fresh id [] [] lacks t = refl
  tied_fresh id [] (y ∷ ys) lacks t = absurd t
  tied_fresh id (x ∷ xs) [] lacks t = absurd t
  tied_fresh id (x ∷ xs) (y ∷ ys) lacks t = rw (ne_eqb x.0 id (lacks x y t.0)) (tied_fresh id xs ys lacks t.1)

  -- where an id is gone, its ties need not stay
  pub retied_but : (S : ℕ × X → B → Type 0) (id : ℕ) (xs : List (ℕ × X)) (ys : List B) → ((p : ℕ × X) (y : B) → p.0 ≢ id → R p y → S p y) → has_id id xs ≡ false → AllZip R xs ys → AllZip S xs ys
  retied_but S id [] [] more gone t = tt
  retied_but S id [] (y ∷ ys) more gone t = absurd t
  retied_but S id (x ∷ xs) [] more gone t = absurd t
  retied_but S id (x ∷ xs) (y ∷ ys) more gone t = but (x.0 == id) refl gone (λ rest. retied_but S id xs ys more rest t.1)
    where
      but : (b : Bool) → (x.0 == id) ≡ b → has_id id (x ∷ xs) ≡ false → (has_id id xs ≡ false → AllZip S xs ys) → AllZip S (x ∷ xs) (y ∷ ys)
      but true e gone later = absurd (let no : true ≡ false = rw e at gone in cc)
      but false e gone later = (more x y (eqb-false x.0 id e) t.0, later (rw e at gone))

  module _ (want : X → Bool) (test : B → Bool) (agree : (p : ℕ × X) (y : B) → R p y → want p.1 ≡ test y) where
    -- what is found by the pairs is found by the members
    pub record IsTaken (id : ℕ) (xs : List (ℕ × X)) (ys : List B) : Type 0 where
      pub member : B
      pub pair : ℕ × X
      pub is : pair.0 ≡ id
      pub found : find test ys ≡ Some member
      pub tie : R pair member
      pub rest : AllZip R (remove_first (λ p. want p.1) xs) (remove_first test ys)
      pub shorter : length (remove_first (λ p. want p.1) xs) + 1 ≡ length xs

    pub taken : (id : ℕ) (xs : List (ℕ × X)) (ys : List B) → AllZip R xs ys → first_id want xs ≡ Some id → IsTaken id xs ys
    taken id [] [] t e = absurd (cc)
    taken id [] (y ∷ ys) t e = absurd t
    taken id (x ∷ xs) [] t e = absurd t
    taken id (x ∷ xs) (y ∷ ys) t e = step (want x.1) refl (test y) refl e (λ later. taken id xs ys t.1 later)
      where
        step : (b : Bool) → want x.1 ≡ b → (d : Bool) → test y ≡ d → first_id want (x ∷ xs) ≡ Some id → (first_id want xs ≡ Some id → IsTaken id xs ys) → IsTaken id (x ∷ xs) (y ∷ ys)
        step true w true d e later =
            let same : Some x.0 ≡ Some id = rw w at e in
            record { member = y; pair = x; is = cc; found = rw d refl; tie = t.0; rest = rw (w, d, remove_first) t.1; shorter = rw (w, remove_first) (omega arith) }
        step false w false d e later =
            let more = later (rw w at e) in
            let shorter = more.shorter in
            record { member = more.member; pair = more.pair; is = more.is; found = rw d more.found; tie = more.tie; rest = rw (w, d, remove_first) (t.0, more.rest); shorter = rw (w, remove_first) (omega arith) }
        step true w false d e later = absurd (let no : true ≡ false = sym w ∙ agree x y t.0 ∙ d in cc)
        step false w true d e later = absurd (let no : true ≡ false = sym d ∙ sym (agree x y t.0) ∙ w in cc)

    pub missed : (xs : List (ℕ × X)) (ys : List B) → AllZip R xs ys → first_id want xs ≡ None → find test ys ≡ None
    missed [] [] t e = refl
    missed [] (y ∷ ys) t e = absurd t
    missed (x ∷ xs) [] t e = absurd t
    missed (x ∷ xs) (y ∷ ys) t e = step (want x.1) refl (test y) refl e (λ later. missed xs ys t.1 later)
      where
        step : (b : Bool) → want x.1 ≡ b → (d : Bool) → test y ≡ d → first_id want (x ∷ xs) ≡ None → (first_id want xs ≡ None → find test ys ≡ None) → find test (y ∷ ys) ≡ None
        step true w d is e later = absurd (let no : Some x.0 ≡ None = rw w at e in cc)
        step false w false d e later = rw d (later (rw w at e))
        step false w true d e later = absurd (let no : true ≡ false = sym d ∙ sym (agree x y t.0) ∙ w in cc)

    by_id : (xs : List (ℕ × X)) (ys : List B) → AllZip R xs ys → (o : Option ℕ) → first_id want xs ≡ o → is_some o ≡ is_some (find test ys)
    by_id xs ys t None e = rw (missed xs ys t e) refl
    by_id xs ys t (Some id) e = rw (taken id xs ys t e).found refl

    -- one is found by the pairs exactly where one is by the members
    pub found_alike : (xs : List (ℕ × X)) (ys : List B) → AllZip R xs ys → is_some (first_id want xs) ≡ is_some (find test ys)
    found_alike xs ys t = by_id xs ys t (first_id want xs) refl
