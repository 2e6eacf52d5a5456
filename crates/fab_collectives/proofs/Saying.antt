-- Where each message is what its sender's contract says, it brings the shares of the ranks from its sender on.
use Rattle.std.proofs.Common.{◌≡◌, ℕ, zero, suc, ◌+◌, ◌-◌, ◌*◌, ◌<◌, ◌≤◌, ◌⊎◌, inl, inr, min, Bool, true, false, List, [], ◌∷◌, ◌++◌, length, take, get_or, slice_index_or, refl, sym, ap, ap₂, ◌∙◌, subst, arith, append-nil, append_assoc}
use Rattle.std.specs.Prelude.{nat_lt}
use Rattle.std.specs.List.{concat}
use Rattle.std.proofs.lemmas.Bool.{ltb-true, ltb-false}
use Rattle.fab_topology.specs.declared.kinds.Topology.{Topology}
use Rattle.fab_topology.specs.Laws.{Tiles, reach}
use Rattle.fab_topology.specs.Rounds.{ahead, distance, waits_for, width}
use Rattle.fab_topology.proofs.Steps.{ahead_below}
use Rattle.fab_topology.proofs.Tiles.{short}
use Rattle.fab_collectives.specs.Routes.{heard_within}
use Rattle.fab_collectives.proofs.Ring.{bytes, bytes_append, bytes_from, bytes_none, bytes_self, take_bytes}
use Rattle.fab_collectives.proofs.Whole.{reach_all}

module _ (T : Topology) (R p len : ℕ) (f : ℕ → List ℕ) (heard : ℕ → List (List ℕ)) (tiles : Tiles R (λ k. distance T k) (λ k. width T p k) p) (alike : (r : ℕ) → r < p → length (f r) ≡ len) where
  abbrev d : ℕ → ℕ
  d k = distance T k

  abbrev w : ℕ → ℕ
  w k = width T p k

  abbrev row : ℕ → ℕ → ℕ → List ℕ
  row r a n = bytes p len f r a n

  abbrev at : ℕ → ℕ → List ℕ
  at r k = slice_index_or (heard r) k []

  -- what rank s tells in round k, of the first n rounds
  within : (s k : ℕ) → s < p → k < R → ((j : ℕ) → j < k → at s j ≡ row s (d j) (w j)) → (n : ℕ) → n ≤ k
      → f s ++ heard_within T len (heard s) (w k) n ≡ row s 0 (min (w k) (reach d w n))
  within s k there inside known zero upto = let some = tiles.some k inside in let one : min (w k) 1 ≡ 1 = omega arith in
      append-nil (f s) ∙ sym (bytes_self p len f s there) ∙ sym (ap (λ (i : ℕ). row s 0 i) one)
  within s k there inside known (suc n) upto =
      sym (append_assoc (f s) (heard_within T len (heard s) (w k) n) (take ((w k - d n) * len) (at s n)))
      ∙ ap₂ (λ (xs ys : List ℕ). xs ++ ys) (within s k there inside known n (omega arith))
      (ap (take ((w k - d n) * len)) (known n (omega arith)) ∙ take_bytes p len f alike s there (d n) (w n) (w k - d n) (tiles.within n (omega arith)))
      ∙ more (nat_lt (w k) (d n)) refl
    where
      next : d n ≡ reach d w n
      next = tiles.next n (omega arith)

      more : (b : Bool) → nat_lt (w k) (d n) ≡ b → row s 0 (min (w k) (reach d w n)) ++ row s (d n) (min (w k - d n) (w n)) ≡ row s 0 (min (w k) (d n + w n))
      more true is = let less = ltb-true (w k) (d n) is in let e = next in
          let none : min (w k - d n) (w n) ≡ 0 = omega arith in let one : min (w k) (reach d w n) ≡ min (w k) (d n + w n) = omega arith in
          ap₂ (λ (i j : ℕ). row s 0 i ++ row s (d n) j) one none
          ∙ ap (λ (ys : List ℕ). row s 0 (min (w k) (d n + w n)) ++ ys) (bytes_none p len f s (d n)) ∙ append-nil (row s 0 (min (w k) (d n + w n)))
      more false is = let enough = ltb-false (w k) (d n) is in let e = next in
          let all : min (w k) (reach d w n) ≡ d n = omega arith in
          ap (λ (i : ℕ). row s 0 i ++ row s (d n) (min (w k - d n) (w n))) all
          ∙ bytes_append p len f s 0 (d n) (min (w k - d n) (w n)) (d n) (min (w k) (d n + w n)) (omega arith) (omega arith)

  module _ (said : (r k : ℕ) → r < p → k < R → at r k ≡ f (ahead p r (d k)) ++ heard_within T len (heard (ahead p r (d k))) (w k) (waits_for T k))
      (waits : (k : ℕ) → k < R → (waits_for T k ≡ k) ⊎ ((waits_for T k ≡ 0) × (w k ≡ 1))) where
    near : (k : ℕ) → k < R → d k < p
    near k inside = short R d w p tiles k inside

    finish : (k : ℕ) → k < R → (r : ℕ) → r < p → waits_for T k ≤ k → min (w k) (reach d w (waits_for T k)) ≡ w k
        → ((j : ℕ) → j < k → (r : ℕ) → r < p → at r j ≡ row r (d j) (w j)) → at r k ≡ row r (d k) (w k)
    finish k inside r there upto full known = let s = ahead p r (d k) in let off = near k inside in let below = ahead_below p r (d k) there (omega arith) in
        said r k there inside ∙ within s k below inside (λ j less. known j less s below) (waits_for T k) upto
        ∙ ap (λ (i : ℕ). row s 0 i) full ∙ bytes_from p len f r (d k) there off 0 (d k) (w k) (omega arith) (tiles.within k inside)

    ready : (k : ℕ) → k < R → (r : ℕ) → r < p → (waits_for T k ≡ k) ⊎ ((waits_for T k ≡ 0) × (w k ≡ 1))
        → ((j : ℕ) → j < k → (r : ℕ) → r < p → at r j ≡ row r (d j) (w j)) → at r k ≡ row r (d k) (w k)
    ready k inside r there (inl all) known = let next = tiles.next k inside in let most = tiles.known k inside in
        let e : reach d w (waits_for T k) ≡ reach d w k = ap (λ (n : ℕ). reach d w n) all in finish k inside r there (omega arith) (omega arith) known
    ready k inside r there (inr none) known = let zero_first = none.0 in let one = none.1 in
        let e : reach d w (waits_for T k) ≡ 1 = ap (λ (n : ℕ). reach d w n) zero_first in finish k inside r there (omega arith) (omega arith) known

    rows : (n k : ℕ) → k < n → k < R → (r : ℕ) → r < p → at r k ≡ row r (d k) (w k)
    rows zero k before inside r there = absurd (let no : 1 ≤ 0 = omega arith in omega arith)
    rows (suc n) k before inside r there = ready k inside r there (waits k inside) (λ j less r there. rows n j (omega arith) (omega arith) r there)

    module _ (r : ℕ) (there : r < p) where
      joined_from : (xs : List (List ℕ)) (k : ℕ) → k + length xs ≡ R → ((j i : ℕ) → j < length xs → k + j ≡ i → get_or xs j [] ≡ row r (d i) (w i))
          → concat xs ≡ row r (reach d w k) (p - reach d w k)
      joined_from [] k end each = let same : k ≡ R = omega arith in let all = reach_all R p len d w tiles (omega arith) in
          let e : reach d w k ≡ reach d w R = ap (λ (n : ℕ). reach d w n) same in let none : p - reach d w k ≡ 0 = omega arith in
          sym (ap (λ (i : ℕ). row r (reach d w k) i) none ∙ bytes_none p len f r (reach d w k))
      joined_from (x ∷ xs) k end each = let next = tiles.next k (omega arith) in let inside = tiles.within k (omega arith) in
          ap₂ (λ (xs ys : List ℕ). xs ++ ys) (each zero k (omega arith) (omega arith)) (joined_from xs (suc k) (omega arith) (λ j i below is. each (suc j) i (omega arith) (omega arith)))
          ∙ bytes_append p len f r (d k) (w k) (p - (d k + w k)) (d k + w k) (p - d k) refl (omega arith)
          ∙ ap (λ (i : ℕ). row r i (p - i)) next

      -- all shares, from the own one on
      pub all_said : length (heard r) ≡ R → f r ++ concat (heard r) ≡ row r 0 p
      all_said count = ap₂ (λ (xs ys : List ℕ). xs ++ ys) (sym (bytes_self p len f r there))
          (joined_from (heard r) 0 (omega arith) (λ j i below is. subst (λ (i : ℕ). at r j ≡ row r (d i) (w i)) (turned j i is) (rows (suc j) j (omega arith) (omega arith) r there)))
          ∙ bytes_append p len f r 0 1 (p - 1) 1 p (omega arith) (omega arith)
        where
          turned : (j i : ℕ) → 0 + j ≡ i → j ≡ i
          turned j i is = omega arith
