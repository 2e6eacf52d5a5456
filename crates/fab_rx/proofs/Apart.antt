-- The ids of claimed messages: none is claimed twice, and none is that of an unexpected message.
use Rattle.std.proofs.Common.{◌≡◌, ◌≢◌, ℕ, ◌==◌, Bool, true, false, List, [], ◌∷◌, ◌++◌, Some, refl, sym, ap, subst, ◌∙◌}
use Rattle.std.proofs.lemmas.Bool.{eqb-true, ne_eqb}
use Rattle.std.proofs.lemmas.List.Folds.{list_any-append}
use Rattle.fab_base.proofs.Numbers.{numbers_differ as eqb-false}
use Rattle.fab_model.specs.Matching.{remove_first}
use Rattle.fab_match.specs.Matcher.{first_id, has_id}
use Rattle.fab_match.proofs.Pairs.{has_id-first}
use Rattle.fab_rx.specs.Stored.{AreApart}

-- no pair has an id that none had before one left
pub lacks_fewer : {X : Type 0} (test : ℕ × X → Bool) (id : ℕ) (xs : List (ℕ × X)) → has_id id xs ≡ false → has_id id (remove_first test xs) ≡ false
lacks_fewer test id [] e = e
lacks_fewer {X} test id (x ∷ xs) e = by_id (x.0 == id) refl (lacks_fewer test id xs)
  where
    by_test : (b : Bool) → test x ≡ b → (x.0 == id) ≡ false → has_id id xs ≡ false → (has_id id xs ≡ false → has_id id (remove_first test xs) ≡ false) → has_id id (remove_first test (x ∷ xs)) ≡ false
    by_test true t other rest more = rw (t, remove_first) rest
    by_test false t other rest more = rw (t, remove_first, other) (more rest)

    by_id : (b : Bool) → (x.0 == id) ≡ b → (has_id id xs ≡ false → has_id id (remove_first test xs) ≡ false) → has_id id (remove_first test (x ∷ xs)) ≡ false
    by_id true same more = absurd (let no : true ≡ false = rw same at e in cc)
    by_id false other more = by_test (test x) refl other (rw other at e) more

pub lacks_push : {X : Type 0} (id : ℕ) (xs : List (ℕ × X)) (x : ℕ × X) → has_id id xs ≡ false → x.0 ≢ id → has_id id (xs ++ x ∷ []) ≡ false
lacks_push id xs x e other = list_any-append (λ p. p.0 == id) xs (x ∷ []) ∙ rw (e, ne_eqb x.0 id other) refl

-- one that is there differs from one that is not
pub lacked_other : {X : Type 0} (id other : ℕ) (xs : List (ℕ × X)) → has_id id xs ≡ true → has_id other xs ≡ false → other ≢ id
lacked_other id other xs there lacks same = let no : true ≡ false = sym there ∙ ap (λ k. has_id k xs) (sym same) ∙ lacks in cc

pub apart_fewer : {X Y : Type 0} → (test : ℕ × X → Bool) (us : List (ℕ × X)) (cs : List (ℕ × Y)) → AreApart us cs → AreApart (remove_first test us) cs
apart_fewer test us [] a = a
apart_fewer test us (c ∷ cs) a = (lacks_fewer test c.0 us a.0, a.1, apart_fewer test us cs a.2)

pub apart_push : {X Y : Type 0} → (us : List (ℕ × X)) (cs : List (ℕ × Y)) (u : ℕ × X) → has_id u.0 cs ≡ false → AreApart us cs → AreApart (us ++ u ∷ []) cs
apart_push us [] u fresh a = tt
apart_push us (c ∷ cs) u fresh a = by_id (c.0 == u.0) refl (λ rest. apart_push us cs u rest a.2)
  where
    by_id : (b : Bool) → (c.0 == u.0) ≡ b → (has_id u.0 cs ≡ false → AreApart (us ++ u ∷ []) cs) → AreApart (us ++ u ∷ []) (c ∷ cs)
    by_id true same more = absurd (let no : true ≡ false = rw same at fresh in cc)
    by_id false other more = (lacks_push c.0 us u a.0 (λ same. eqb-false c.0 u.0 other (sym same)), a.1, more (rw other at fresh))

-- an unexpected message is not claimed
pub not_claimed : {X Y : Type 0} → (us : List (ℕ × X)) (cs : List (ℕ × Y)) (id : ℕ) → has_id id us ≡ true → AreApart us cs → has_id id cs ≡ false
not_claimed us [] id there a = refl
not_claimed us (c ∷ cs) id there a = rw (ne_eqb c.0 id (lacked_other id c.0 us there a.0)) (not_claimed us cs id there a.2)

-- it is claimed
pub apart_claim : {X Y : Type 0} → (us rest : List (ℕ × X)) (cs : List (ℕ × Y)) (c : ℕ × Y) → has_id c.0 us ≡ true → has_id c.0 rest ≡ false → AreApart us cs → AreApart rest cs → AreApart rest (cs ++ c ∷ [])
apart_claim us rest [] c there gone a r = (gone, refl, tt)
apart_claim us rest (d ∷ cs) c there gone a r = (r.0, lacks_push d.0 cs c a.1 (λ same. lacked_other c.0 d.0 us there a.0 (sym same)), apart_claim us rest cs c there gone a.2 r.2)

pub apart_of : {X Y : Type 0} → (us : List (ℕ × X)) (cs : List (ℕ × Y)) (id : ℕ) → has_id id cs ≡ true → AreApart us cs → has_id id us ≡ false
apart_of us [] id there a = absurd (cc)
apart_of us (c ∷ cs) id there a = by (c.0 == id) refl (λ more. apart_of us cs id more a.2)
  where
    by : (b : Bool) → (c.0 == id) ≡ b → (has_id id cs ≡ true → has_id id us ≡ false) → has_id id us ≡ false
    by true e more = subst (λ (k : ℕ). has_id k us ≡ false) (eqb-true c.0 id e) a.0
    by false e more = more (rw e at there)

-- one leaves those that are apart
pub apart_rest : {X Y : Type 0} → (test : ℕ × Y → Bool) (us : List (ℕ × X)) (cs : List (ℕ × Y)) → AreApart us cs → AreApart us (remove_first test cs)
apart_rest test us [] a = a
apart_rest test us (c ∷ cs) a = by (test c) refl (apart_rest test us cs a.2)
  where
    by : (b : Bool) → test c ≡ b → AreApart us (remove_first test cs) → AreApart us (remove_first test (c ∷ cs))
    by true t more = rw (t, remove_first) a.2
    by false t more = rw (t, remove_first) (a.0, lacks_fewer test c.0 cs a.1, more)

-- one joins them
pub apart_join : {X Y : Type 0} → (us : List (ℕ × X)) (cs : List (ℕ × Y)) (c : ℕ × Y) → has_id c.0 us ≡ false → has_id c.0 cs ≡ false → AreApart us cs → AreApart us (cs ++ c ∷ [])
apart_join us [] c fresh new a = (fresh, refl, tt)
apart_join us (d ∷ cs) c fresh new a = by_id (d.0 == c.0) refl (λ rest. apart_join us cs c fresh rest a.2)
  where
    by_id : (b : Bool) → (d.0 == c.0) ≡ b → (has_id c.0 cs ≡ false → AreApart us (cs ++ c ∷ [])) → AreApart us ((d ∷ cs) ++ c ∷ [])
    by_id true same more = absurd (let no : true ≡ false = rw same at new in cc)
    by_id false other more = (a.0, lacks_push d.0 cs c a.1 (λ same. eqb-false d.0 c.0 other (sym same)), more (rw other at new))

-- a claim is given up
pub apart_less : {X : Type 0} → (test : ℕ → Bool) (us : List (ℕ × X)) (cs : List (ℕ × ℕ)) → AreApart us cs → AreApart us (remove_first (λ c. test c.1) cs)
apart_less test us cs a = apart_rest (λ c. test c.1) us cs a

module _ {X : Type 0} (test : ℕ → Bool) (us : List (ℕ × X)) where
  -- its id is nowhere then
  pub given_up : (cs : List (ℕ × ℕ)) (id : ℕ) → first_id test cs ≡ Some id → AreApart us cs → (has_id id us ≡ false) × (has_id id (remove_first (λ c. test c.1) cs) ≡ false)
  given_up [] id e a = absurd (cc)
  given_up (c ∷ cs) id e a = by (test c.1) refl (λ later. given_up cs id later a.2)
    where
      by : (b : Bool) → test c.1 ≡ b → (first_id test cs ≡ Some id → (has_id id us ≡ false) × (has_id id (remove_first (λ c. test c.1) cs) ≡ false)) → (has_id id us ≡ false) × (has_id id (remove_first (λ c. test c.1) (c ∷ cs)) ≡ false)
      by true t more =
          let both : Some c.0 ≡ Some id = rw t at e in
          let same : c.0 ≡ id = cc in
          rw (t, remove_first, ← same) (a.0, a.1)
      by false t more =
          let later : first_id test cs ≡ Some id = rw t at e in
          let rest = more later in
          let other : c.0 ≢ id = λ same. (let no : true ≡ false = sym (has_id-first test id cs later) ∙ ap (λ k. has_id k cs) (sym same) ∙ a.1 in cc) in
          rw (t, remove_first, ne_eqb c.0 id other) (rest.0, rest.1)
