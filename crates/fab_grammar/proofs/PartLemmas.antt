-- The items of the parts, with one item more.
use Rattle.std.proofs.Common.{◌≡◌, ℕ, true, false, not, eqb, List, [], ◌∷◌, ◌++◌, ◌∙◌, refl}
use Rattle.std.specs.List.{list_any}
use Rattle.std.proofs.lemmas.List.Elements.{filter_map-append}
use Rattle.std.proofs.lemmas.List.Folds.{list_any-append}
pub use Rattle.std.proofs.lemmas.Bool.{or_parts as or_false, and_parts as and_true}
use Rattle.fab_base.proofs.Bools.{not_true}
use Rattle.fab_base.proofs.Numbers.{eqb_other}
use Rattle.fab_grammar.specs.declared.items.Item.{Item}
use Rattle.fab_grammar.specs.Before.{is_distinct, opened, opened_by}

pub opened_by-append : (xs ys : List Item) → opened_by (xs ++ ys) ≡ opened_by xs ++ opened_by ys
opened_by-append xs ys = filter_map-append opened xs ys

-- Distinct numbers: the first is none of the others.
pub distinct_first : (k : ℕ) (ks : List ℕ) → is_distinct (k ∷ ks) ≡ true → (list_any (λ j. eqb j k) ks ≡ false) × (is_distinct ks ≡ true)
distinct_first k ks e =
    let both = and_true (not (list_any (λ j. eqb j k) ks)) (is_distinct ks) e in
    (not_true (list_any (λ j. eqb j k) ks) both.0, both.1)

distinct_onto : (k : ℕ) (ks : List ℕ) → list_any (λ j. eqb j k) ks ≡ false → is_distinct ks ≡ true → is_distinct (k ∷ ks) ≡ true
distinct_onto k ks none distinct = rw (none, distinct) refl

any_push : (k j : ℕ) (js : List ℕ) → list_any (λ i. eqb i j) js ≡ false → eqb k j ≡ false → list_any (λ i. eqb i j) (js ++ k ∷ []) ≡ false
any_push k j js none other = list_any-append (λ i. eqb i j) js (k ∷ []) ∙ rw (none, other) refl

pub distinct_push : (ks : List ℕ) (k : ℕ) → is_distinct ks ≡ true → list_any (λ j. eqb j k) ks ≡ false → is_distinct (ks ++ k ∷ []) ≡ true
distinct_push [] k d h = refl
distinct_push (j ∷ js) k d h =
    let first = distinct_first j js d in
    let none = or_false (eqb j k) (list_any (λ i. eqb i k) js) h in
    distinct_onto j (js ++ k ∷ []) (any_push k j js first.0 (eqb_other j k none.0)) (distinct_push js k first.1 none.1)
