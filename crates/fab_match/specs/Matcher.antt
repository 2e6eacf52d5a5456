-- A matching store: two lists of pairs of an id and what it stands for, a `Want` or a `Sign`.
--     first_id test xs      the id of the first pair whose second part passes the test, None exactly where there is none
--     has_id id xs          a pair has this id
--     ids xs                the ids, in order
--     without id xs         the list without the pair of this id; the others keep their order
--     HasDistinctIds xs     no two pairs have the same id
use Rattle.std.specs.Prelude.{◌≢◌, ◌==◌, ℕ, Bool, List, Option, AllPairs, find, map}
use Rattle.std.specs.Option.{option_map}
use Rattle.std.specs.List.{list_any}
use Rattle.fab_base.specs.declared.items.Want.{Want}
use Rattle.fab_base.specs.declared.items.Sign.{Sign}
use Rattle.fab_model.specs.Matching.{remove_first}

-- a store as contracts see it
pub record Store : Type 0 where
  -- the receives, in the order posted
  pub posted : List (ℕ × Want)
  -- the messages that no receive took, in the order in which they arrived
  pub unexpected : List (ℕ × Sign)
  -- how many receives may be posted at once
  pub room : ℕ

abbrev pub first_id : {X : Type 0} → (X → Bool) → List (ℕ × X) → Option ℕ
first_id test xs = option_map (λ p. p.0) (find (λ p. test p.1) xs)

abbrev pub has_id : {X : Type 0} → ℕ → List (ℕ × X) → Bool
has_id id xs = list_any (λ p. p.0 == id) xs

abbrev pub ids : {X : Type 0} → List (ℕ × X) → List ℕ
ids xs = map (λ p. p.0) xs

abbrev pub without : {X : Type 0} → ℕ → List (ℕ × X) → List (ℕ × X)
without id xs = remove_first (λ p. p.0 == id) xs

abbrev pub HasDistinctIds : {X : Type 0} → List (ℕ × X) → Type 0
HasDistinctIds xs = AllPairs (λ p q. p.0 ≢ q.0) xs
