-- A vector in which each peer stands at the index of its number.
use Rattle.std.proofs.Common.{◌≡◌, inl, inr, ℕ, zero, suc, ◌+◌, ◌<◌, ◌≤◌, List, [], ◌∷◌, ◌++◌, length, map, get_or, Option, Some, None, sym, ap, ◌∙◌, arith}
use Rattle.std.proofs.lemmas.Bool.{cases_lt}
use Rattle.std.proofs.lemmas.List.{get_or_append_left, get_or_past, get_or_push, length-map, map-append}
use Rattle.fab_model.specs.State.{lookup}
use Rattle.fab_model.specs.Calls.{upto}
use Rattle.fab_model.proofs.Elements.{length-upto}
use Rattle.fab_av.specs.Addresses.{IsTable}

abbrev all_of : ℕ → List (Option ℕ)
all_of n = map Some (upto n)

length-all : (n : ℕ) → length (all_of n) ≡ n
length-all n = length-map (upto n) Some ∙ length-upto n

one_more : (n : ℕ) → all_of (suc n) ≡ all_of n ++ Some n ∷ []
one_more n = map-append Some (upto n) (n ∷ [])

stands : (n i : ℕ) → i < n → lookup (all_of n) i ≡ Some i
stands zero i below = absurd (omega (arith, below))
stands (suc n) i below = ap (λ xs. get_or xs i None) (one_more n) ∙ elim (cases_lt i n) [
  | inl less ↦ get_or_append_left (all_of n) (Some n ∷ []) None i (let l = length-all n in omega (arith, l, less)) ∙ stands n i less
  | inr past ↦ (let l = length-all n in let is : i ≡ n = omega (arith, past, below) in get_or_push (all_of n) (Some n) None i (l ∙ sym is) ∙ ap Some (sym is))
]

stands_at : (n i k : ℕ) → lookup (all_of n) i ≡ Some k → (i < n) × (i ≡ k)
stands_at n i k is = elim (cases_lt i n) [
  | inl below ↦ (below, (let at = stands n i below in cc))
  | inr past ↦ absurd (let none : lookup (all_of n) i ≡ None = get_or_past (all_of n) i None (let l = length-all n in omega (arith, l, past)) in cc)
]

pub table_of_all : (n : ℕ) → n ≤ 4_096 → IsTable n (all_of n) (all_of n)
table_of_all n few = record {
  all = length-all n;
  limit = (let l = length-all n in omega (arith, l, few));
  found = λ i k is. (let s = stands_at n i k is in sym (ap (λ j. lookup (all_of n) j) s.1) ∙ is ∙ ap Some (sym s.1));
  stands = λ k i is. (let s = stands_at n k i is in sym (ap (λ j. lookup (all_of n) j) s.1) ∙ is ∙ ap Some (sym s.1));
}
