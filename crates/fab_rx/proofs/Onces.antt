-- Lists of receives in which one number of a call stands at most once.
use Rattle.std.proofs.Common.{◌≡◌, ◌<◌, ◌+◌, ◌-◌, ◌||◌, Bool, true, false, List, [], ◌∷◌, ◌++◌, length, take, drop, set, get_or, Option, Some, None, ℕ, zero, suc, refl, sym, ap, ◌∙◌, arith}
use Rattle.std.specs.List.{list_any}
use Rattle.std.proofs.lemmas.List.{take_rest}
use Rattle.std.specs.Prelude.{find}
use Rattle.std.proofs.lemmas.Bool.{eq-eqb, ne_eqb}
use Rattle.fab_base.specs.declared.operations.Receive.{Receive}
use Rattle.fab_model.specs.Matching.{change_first, remove_first}
use Rattle.fab_model.specs.Complete.{is_made_by}
use Rattle.fab_rx.specs.Numbers.{AreDistinct, HaveOtherCalls}
use Rattle.fab_rx.proofs.Numbering.{found_other}

pub others_none : (call : ℕ) (rs : List Receive) → HaveOtherCalls call rs → find (is_made_by call) rs ≡ None
others_none call [] h = refl
others_none call (r ∷ rs) h = rw (ne_eqb r.call call h.0) (others_none call rs h.1)

module _ {X : Type 0} (test : X → Bool) (f : X → X) where
  pub change_none : (xs : List X) → find test xs ≡ None → change_first test f xs ≡ xs
  change_none [] e = refl
  change_none (x ∷ xs) e = by (test x) refl (λ rest. change_none xs rest)
    where
      by : (b : Bool) → test x ≡ b → (find test xs ≡ None → change_first test f xs ≡ xs) → change_first test f (x ∷ xs) ≡ x ∷ xs
      by true is more = absurd (let no : Some x ≡ None = rw is at e in cc)
      by false is more = rw (is, change_first) (ap (λ ys. x ∷ ys) (more (rw is at e)))

  module _ (y : X) (yes : test y ≡ true) where
    pub change_last : (xs : List X) → find test xs ≡ None → change_first test f (xs ++ y ∷ []) ≡ xs ++ f y ∷ []
    change_last [] e = rw (yes, change_first) refl
    change_last (x ∷ xs) e = by (test x) refl (λ rest. change_last xs rest)
      where
        by : (b : Bool) → test x ≡ b → (find test xs ≡ None → change_first test f (xs ++ y ∷ []) ≡ xs ++ f y ∷ []) → change_first test f (x ∷ xs ++ y ∷ []) ≡ x ∷ xs ++ f y ∷ []
        by true is more = absurd (let no : Some x ≡ None = rw is at e in cc)
        by false is more = rw (is, change_first) (ap (λ ys. x ∷ ys) (more (rw is at e)))

module _ {X : Type 0} (test : X → Bool) (y : X) (yes : test y ≡ true) where
  pub remove_last : (xs : List X) → find test xs ≡ None → remove_first test (xs ++ y ∷ []) ≡ xs
  remove_last [] e = rw (yes, remove_first) refl
  remove_last (x ∷ xs) e = by (test x) refl (λ rest. remove_last xs rest)
    where
      by : (b : Bool) → test x ≡ b → (find test xs ≡ None → remove_first test (xs ++ y ∷ []) ≡ xs) → remove_first test (x ∷ xs ++ y ∷ []) ≡ x ∷ xs
      by true is more = absurd (let no : Some x ≡ None = rw is at e in cc)
      by false is more = rw (is, remove_first) (ap (λ ys. x ∷ ys) (more (rw is at e)))

  pub find_last : (xs : List X) → find test xs ≡ None → find test (xs ++ y ∷ []) ≡ Some y
  find_last [] e = rw yes refl
  find_last (x ∷ xs) e = by (test x) refl (λ rest. find_last xs rest)
    where
      by : (b : Bool) → test x ≡ b → (find test xs ≡ None → find test (xs ++ y ∷ []) ≡ Some y) → find test (x ∷ xs ++ y ∷ []) ≡ Some y
      by true is more = absurd (let no : Some x ≡ None = rw is at e in cc)
      by false is more = rw is (more (rw is at e))

-- what is changed by a test and then by its number is changed once
pub change_twice : (test : Receive → Bool) (f g : Receive → Receive) → ((y : Receive) → (g y).call ≡ y.call) → (rs : List Receive) (r : Receive) → find test rs ≡ Some r → AreDistinct rs → change_first (is_made_by r.call) f (change_first test g rs) ≡ change_first test (λ y. f (g y)) rs
change_twice test f g same [] r e d = absurd (cc)
change_twice test f g same (y ∷ ys) r e d = by (test y) refl (λ rest. change_twice test f g same ys r rest d.1)
  where
    by : (b : Bool) → test y ≡ b → (find test ys ≡ Some r → change_first (is_made_by r.call) f (change_first test g ys) ≡ change_first test (λ z. f (g z)) ys) → change_first (is_made_by r.call) f (change_first test g (y ∷ ys)) ≡ change_first test (λ z. f (g z)) (y ∷ ys)
    by true is more =
        let both : Some y ≡ Some r = rw is at e in
        let equal : y ≡ r = cc in
        let made : is_made_by r.call (g y) ≡ true = eq-eqb (g y).call r.call (same y ∙ ap (λ (x : Receive). x.call) equal) in
        rw (is, change_first, made) refl
    by false is more =
        let rest : find test ys ≡ Some r = rw is at e in
        let other : is_made_by r.call y ≡ false = ne_eqb y.call r.call (λ equal. found_other test y.call ys r d.0 rest (sym equal)) in
        rw (is, change_first, other) (ap (λ zs. y ∷ zs) (more rest))

-- an item of another source than this one
any_besides : {A : Type 0} → (f : Option A → Bool) → f None ≡ false → (xs : List (Option A)) (s : ℕ) → s < length xs → (list_any f (take s xs) || list_any f (drop (suc s) xs)) ≡ list_any f (set xs s None)
any_besides f none [] s lt = absurd (omega arith)
any_besides f none (x ∷ xs) zero lt = rw none refl
any_besides f none (x ∷ xs) (suc s) lt = or_assoc (f x) (list_any f (take s xs)) (list_any f (drop (suc s) xs)) ∙ ap (λ b. f x || b) (any_besides f none xs s (omega arith))
  where
    or_assoc : (a b c : Bool) → ((a || b) || c) ≡ (a || (b || c))
    or_assoc true b c = refl
    or_assoc false b c = refl

pub any_before : {A : Type 0} → (f : Option A → Bool) → f None ≡ false → (xs : List (Option A)) (s : ℕ) → s < length xs → list_any f (take s xs) ≡ true → true ≡ list_any f (set xs s None)
any_before f none xs s lt holds = rw holds at (any_besides f none xs s lt)

pub any_after : {A : Type 0} → (f : Option A → Bool) → f None ≡ false → (xs : List (Option A)) (s : ℕ) → s < length xs → list_any f (take s xs) ≡ false → list_any f (take (length xs - (s + 1)) (drop (s + 1) xs)) ≡ list_any f (set xs s None)
any_after f none xs s lt fails =
    let next : s + 1 ≡ suc s = omega arith in
    ap (list_any f) (take_rest xs (s + 1) ∙ ap (λ n. drop n xs) next) ∙ (rw fails at (any_besides f none xs s lt))

-- the place of one that passes
pub any_where : {A : Type 0} → (f : Option A → Bool) → (xs : List (Option A)) → list_any f xs ≡ true → (s : ℕ) × (s < length xs) × (f (get_or xs s None) ≡ true)
any_where f [] e = absurd (cc)
any_where f (x ∷ xs) e = by (f x) refl (λ rest. any_where f xs rest)
  where
    by : (b : Bool) → f x ≡ b → (list_any f xs ≡ true → (s : ℕ) × (s < length xs) × (f (get_or xs s None) ≡ true)) → (s : ℕ) × (s < length (x ∷ xs)) × (f (get_or (x ∷ xs) s None) ≡ true)
    by true is more = (0, omega arith, is)
    by false is more = let rest = more (rw is at e) in (suc rest.0, let lt = rest.1 in omega arith, rest.2)
