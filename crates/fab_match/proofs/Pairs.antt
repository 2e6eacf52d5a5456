-- Pairs whose ids are distinct.
use Rattle.std.proofs.Common.{◌≡◌, ◌≢◌, ℕ, suc, ◌==◌, Bool, true, false, cond, List, [], ◌∷◌, ◌++◌, Option, Some, None, refl, sym, ap, ◌∙◌, arith}
use Rattle.std.specs.Prelude.{find}
use Rattle.std.specs.Option.{option_map}
use Rattle.std.proofs.lemmas.Bool.{eqb-true, eq-eqb, ne_eqb}
use Rattle.std.proofs.Math.Bool.{or-true}
use Rattle.std.proofs.lemmas.List.Folds.{list_any_none, list_any_at}
use Rattle.std.proofs.lemmas.List.Quantifiers.{all_pairs_push}
use Rattle.fab_model.specs.Matching.{remove_first}
use Rattle.fab_match.specs.Matcher.{first_id, has_id, without, HasDistinctIds}
use Rattle.fab_model.proofs.Firsts.{list_any-not_found, remove_first-none}

module _ {X : Type 0} where
  rest_distinct : (x : ℕ × X) (xs : List (ℕ × X)) → HasDistinctIds (x ∷ xs) → HasDistinctIds xs
  rest_distinct x xs distinct i j d lt below = distinct (suc i) (suc j) d (omega arith) (omega arith)

  -- the first pair's id is no other's
  head_lacks : (x : ℕ × X) (xs : List (ℕ × X)) → HasDistinctIds (x ∷ xs) → has_id x.0 xs ≡ false
  head_lacks x xs distinct =
      list_any_none (λ p. p.0 == x.0) xs (λ k d below. ne_eqb _ _ (λ same. distinct 0 (suc k) d (omega arith) (omega arith) (sym same)))

  -- a pair with a new id may join
  pub HasDistinctIds-push : (xs : List (ℕ × X)) (id : ℕ) (x : X) → HasDistinctIds xs → has_id id xs ≡ false → HasDistinctIds (xs ++ (id, x) ∷ [])
  HasDistinctIds-push xs id x distinct new =
      all_pairs_push (λ (p q : ℕ × X). p.0 ≢ q.0) xs (id, x) distinct
      (λ k d below same. let there : has_id id xs ≡ true = list_any_at (λ p. p.0 == id) xs k d below (eq-eqb _ _ same) in absurd (let no : true ≡ false = sym there ∙ new in cc))

  gone_step : (id : ℕ) (x : ℕ × X) (xs : List (ℕ × X)) (b : Bool) → (x.0 == id) ≡ b → has_id x.0 xs ≡ false → has_id id (without id xs) ≡ false → has_id id (without id (x ∷ xs)) ≡ false
  gone_step id x xs true t lacks more = let same : x.0 ≡ id = eqb-true _ _ t in rw (t, remove_first) (rw same at lacks)
  gone_step id x xs false t lacks more = rw (t, remove_first) (rw t more)

  -- once its pair is out, the id is new
  pub has_id-without : (id : ℕ) (xs : List (ℕ × X)) → HasDistinctIds xs → has_id id (without id xs) ≡ false
  has_id-without id [] distinct = refl
  has_id-without id (x ∷ xs) distinct = gone_step id x xs (x.0 == id) refl (head_lacks x xs distinct) (has_id-without id xs (rest_distinct x xs distinct))

module _ {X : Type 0} (test : X → Bool) where
  has_step : (id : ℕ) (x : ℕ × X) (xs : List (ℕ × X)) (b : Bool) → test x.1 ≡ b → option_map (λ (p : ℕ × X). p.0) (cond b (Some x) (find (λ p. test p.1) xs)) ≡ Some id
      → (first_id test xs ≡ Some id → has_id id xs ≡ true) → has_id id (x ∷ xs) ≡ true
  has_step id x xs true t e more = let same : x.0 ≡ id = cc in rw (eq-eqb _ _ same) refl
  has_step id x xs false t e more = rw (more e) (or-true (x.0 == id))

  -- the id that is answered is in the list
  pub has_id-first : (id : ℕ) (xs : List (ℕ × X)) → first_id test xs ≡ Some id → has_id id xs ≡ true
  has_id-first id [] e = absurd (cc)
  has_id-first id (x ∷ xs) e = has_step id x xs (test x.1) refl e (has_id-first id xs)

  later : (id : ℕ) (x : ℕ × X) (xs : List (ℕ × X)) (b : Bool) → (x.0 == id) ≡ b → has_id x.0 xs ≡ false → has_id id xs ≡ true → without id xs ≡ remove_first (λ p. test p.1) xs → without id (x ∷ xs) ≡ x ∷ remove_first (λ p. test p.1) xs
  later id x xs true t lacks has more = absurd (let same : x.0 ≡ id = eqb-true _ _ t in let no : true ≡ false = sym has ∙ (rw same at lacks) in cc)
  later id x xs false t lacks has more = rw (t, remove_first) (ap (λ ys. x ∷ ys) more)

  first_step : (id : ℕ) (x : ℕ × X) (xs : List (ℕ × X)) (b : Bool) → test x.1 ≡ b → option_map (λ (p : ℕ × X). p.0) (cond b (Some x) (find (λ p. test p.1) xs)) ≡ Some id
      → has_id x.0 xs ≡ false → (first_id test xs ≡ Some id → without id xs ≡ remove_first (λ p. test p.1) xs) → without id (x ∷ xs) ≡ remove_first (λ p. test p.1) (x ∷ xs)
  first_step id x xs true t e lacks more = let same : x.0 ≡ id = cc in rw (t, eq-eqb _ _ same, remove_first) refl
  first_step id x xs false t e lacks more = rw (t, remove_first) (later id x xs (x.0 == id) refl lacks (has_id-first id xs e) (more e))

  -- the pair whose id is answered is the first that passes
  pub without-first : (id : ℕ) (xs : List (ℕ × X)) → HasDistinctIds xs → first_id test xs ≡ Some id → without id xs ≡ remove_first (λ p. test p.1) xs
  without-first id [] distinct e = refl
  without-first id (x ∷ xs) distinct e = first_step id x xs (test x.1) refl e (head_lacks x xs distinct) (without-first id xs (rest_distinct x xs distinct))

  none_found : (xs : List (ℕ × X)) (o : Option (ℕ × X)) → find (λ p. test p.1) xs ≡ o → option_map (λ (p : ℕ × X). p.0) o ≡ None → find (λ p. test p.1) xs ≡ None
  none_found xs None found e = found
  none_found xs (Some p) found e = absurd (cc)

  -- where no id is answered, no pair is taken out
  pub remove_first-no_id : (xs : List (ℕ × X)) → first_id test xs ≡ None → remove_first (λ p. test p.1) xs ≡ xs
  remove_first-no_id xs e = remove_first-none (λ p. test p.1) xs (list_any-not_found (λ p. test p.1) xs (none_found xs (find (λ p. test p.1) xs) refl e))
