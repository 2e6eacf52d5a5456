-- One member of a list changes, and with it what is tied to it.
use Rattle.std.proofs.Common.{◌≡◌, ◌≢◌, ℕ, ◌==◌, Bool, true, false, List, [], ◌∷◌, Some, None, refl, sym, subst, ◌∙◌}
use Rattle.std.specs.Prelude.{find}
use Rattle.std.specs.List.{AllZip}
use Rattle.std.proofs.lemmas.Bool.{eqb-true}
use Rattle.fab_base.proofs.Numbers.{numbers_differ as eqb-false}
use Rattle.fab_model.specs.Matching.{change_first, remove_first}
use Rattle.fab_match.specs.Matcher.{first_id, has_id}
use Rattle.fab_match.proofs.Pairs.{has_id-first}
use Rattle.fab_rx.specs.Stored.{AreApart}
use Rattle.fab_rx.specs.Homes.{no_pairs}
use Rattle.fab_rx.proofs.Apart.{lacked_other}
use Rattle.fab_rx.proofs.Tying.{retied_but}

-- a tie that the change keeps
pub kept_changed : {A B : Type 0} (S : A → B → Type 0) (test : B → Bool) (f : B → B) (xs : List A) (ys : List B) → ((x : A) (y : B) → S x y → S x (f y)) → AllZip S xs ys → AllZip S xs (change_first test f ys)
kept_changed S test f [] [] more t = tt
kept_changed S test f [] (y ∷ ys) more t = absurd t
kept_changed S test f (x ∷ xs) [] more t = absurd t
kept_changed S test f (x ∷ xs) (y ∷ ys) more t = step (test y) refl (kept_changed S test f xs ys more t.1)
  where
    step : (b : Bool) → test y ≡ b → AllZip S xs (change_first test f ys) → AllZip S (x ∷ xs) (change_first test f (y ∷ ys))
    step true e rest = rw (e, change_first) (more x y t.0, t.1)
    step false e rest = rw (e, change_first) (t.0, rest)

module _ {X B : Type 0} (R S : ℕ × X → B → Type 0) (test : B → Bool) (f : B → B) (id : ℕ) (this : (p : ℕ × X) (y : B) → p.0 ≡ id → R p y → S p (f y)) (other : (p : ℕ × X) (y : B) → p.0 ≢ id → R p y → S p y) where
  -- the member of this id changes
  pub changed_at : ((p : ℕ × X) (y : B) → R p y → test y ≡ (p.0 == id)) → (xs : List (ℕ × X)) (ys : List B) → AreApart no_pairs xs → AllZip R xs ys → AllZip S xs (change_first test f ys)
  changed_at agree [] [] apart t = tt
  changed_at agree [] (y ∷ ys) apart t = absurd t
  changed_at agree (x ∷ xs) [] apart t = absurd t
  changed_at agree (x ∷ xs) (y ∷ ys) apart t = step (x.0 == id) refl (changed_at agree xs ys apart.2 t.1)
    where
      step : (b : Bool) → (x.0 == id) ≡ b → AllZip S xs (change_first test f ys) → AllZip S (x ∷ xs) (change_first test f (y ∷ ys))
      step true e rest =
          let same : x.0 ≡ id = eqb-true x.0 id e in
          let yes : test y ≡ true = agree x y t.0 ∙ e in
          rw (yes, change_first) (this x y same t.0, retied_but R S id xs ys other (subst (λ (k : ℕ). has_id k xs ≡ false) same apart.1) t.1)
      step false e rest =
          let no : test y ≡ false = agree x y t.0 ∙ e in
          rw (no, change_first) (other x y (eqb-false x.0 id e) t.0, rest)

  -- the first member that passes changes, whose id is found by the pairs
  pub changed_first : (want : X → Bool) → ((p : ℕ × X) (y : B) → R p y → want p.1 ≡ test y) → (xs : List (ℕ × X)) (ys : List B) → AreApart no_pairs xs → first_id want xs ≡ Some id → AllZip R xs ys → AllZip S xs (change_first test f ys)
  changed_first want agree [] [] apart e t = tt
  changed_first want agree [] (y ∷ ys) apart e t = absurd t
  changed_first want agree (x ∷ xs) [] apart e t = absurd t
  changed_first want agree (x ∷ xs) (y ∷ ys) apart e t = step (want x.1) refl e (λ later. changed_first want agree xs ys apart.2 later t.1)
    where
      step : (b : Bool) → want x.1 ≡ b → first_id want (x ∷ xs) ≡ Some id → (first_id want xs ≡ Some id → AllZip S xs (change_first test f ys)) → AllZip S (x ∷ xs) (change_first test f (y ∷ ys))
      step true w e later =
          let both : Some x.0 ≡ Some id = rw w at e in
          let same : x.0 ≡ id = cc in
          let yes : test y ≡ true = sym (agree x y t.0) ∙ w in
          rw (yes, change_first) (this x y same t.0, retied_but R S id xs ys other (subst (λ (k : ℕ). has_id k xs ≡ false) same apart.1) t.1)
      step false w e later =
          let rest : first_id want xs ≡ Some id = rw w at e in
          let no : test y ≡ false = sym (agree x y t.0) ∙ w in
          rw (no, change_first) (other x y (lacked_other id x.0 xs (has_id-first want id xs rest) apart.1) t.0, later rest)

module _ {X B : Type 0} (R : ℕ × X → B → Type 0) (test : B → Bool) (id : ℕ) (agree : (p : ℕ × X) (y : B) → R p y → test y ≡ (p.0 == id)) where
  -- the member of this id leaves
  pub removed_at : (xs : List (ℕ × X)) (ys : List B) → AllZip R xs ys → AllZip R (remove_first (λ p. p.0 == id) xs) (remove_first test ys)
  removed_at [] [] t = tt
  removed_at [] (y ∷ ys) t = absurd t
  removed_at (x ∷ xs) [] t = absurd t
  removed_at (x ∷ xs) (y ∷ ys) t = step (x.0 == id) refl (removed_at xs ys t.1)
    where
      step : (b : Bool) → (x.0 == id) ≡ b → AllZip R (remove_first (λ p. p.0 == id) xs) (remove_first test ys) → AllZip R (remove_first (λ p. p.0 == id) (x ∷ xs)) (remove_first test (y ∷ ys))
      step true e rest = rw (e, agree x y t.0 ∙ e, remove_first) t.1
      step false e rest = rw (e, agree x y t.0 ∙ e, remove_first) (t.0, rest)

  -- it is there where its id is
  pub found_at : (xs : List (ℕ × X)) (ys : List B) → AllZip R xs ys → has_id id xs ≡ true → (p : ℕ × X) × (y : B) × (p.0 ≡ id) × (find test ys ≡ Some y) × R p y
  found_at [] [] t there = absurd (cc)
  found_at [] (y ∷ ys) t there = absurd t
  found_at (x ∷ xs) [] t there = absurd t
  found_at (x ∷ xs) (y ∷ ys) t there = step (x.0 == id) refl (λ more. found_at xs ys t.1 more)
    where
      step : (b : Bool) → (x.0 == id) ≡ b → (has_id id xs ≡ true → (p : ℕ × X) × (z : B) × (p.0 ≡ id) × (find test ys ≡ Some z) × R p z) → (p : ℕ × X) × (z : B) × (p.0 ≡ id) × (find test (y ∷ ys) ≡ Some z) × R p z
      step true e more = (x, y, eqb-true x.0 id e, rw (agree x y t.0 ∙ e) refl, t.0)
      step false e more = let rest = more (rw e at there) in (rest.0, rest.1, rest.2, rw (agree x y t.0 ∙ e) rest.3, rest.4)

  pub missed_at : (xs : List (ℕ × X)) (ys : List B) → AllZip R xs ys → has_id id xs ≡ false → find test ys ≡ None
  missed_at [] [] t none = refl
  missed_at [] (y ∷ ys) t none = absurd t
  missed_at (x ∷ xs) [] t none = absurd t
  missed_at (x ∷ xs) (y ∷ ys) t none = step (x.0 == id) refl (λ more. missed_at xs ys t.1 more)
    where
      step : (b : Bool) → (x.0 == id) ≡ b → (has_id id xs ≡ false → find test ys ≡ None) → find test (y ∷ ys) ≡ None
      step true e more = absurd (let no : true ≡ false = rw e at none in cc)
      step false e more = rw (agree x y t.0 ∙ e) (more (rw e at none))
