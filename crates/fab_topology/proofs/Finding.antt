-- The round of a source is found.
use Rattle.std.proofs.Common.{◌≡◌, ℕ, zero, suc, ◌<◌, ◌≤◌, Bool, true, false, ◌&&◌, ◌==◌, if◌then◌else◌, Some, refl, sym, ap, ◌∙◌, subst, arith}
use Rattle.std.specs.Prelude.{nat_lt}
use Rattle.std.proofs.lemmas.Bool.{eq-eqb, eqb-true, ltb-true, ltb-false}
use Rattle.std.proofs.lemmas.Option.{same_Some}
use Rattle.fab_topology.specs.declared.kinds.Topology.{Topology}
use Rattle.fab_topology.specs.Rounds.{hears, round_from, rounds_of, source_of}
use Rattle.fab_topology.specs.Laws.{AreRanks, EachIsFound, EachIsFrom}
use Rattle.fab_topology.proofs.Pairs.{each_is_once}

pub each_is_from : EachIsFrom
each_is_from topology p r s zero k is = absurd (cc (is))
each_is_from topology p r s (suc n) k is = by (hears topology p r n) (source_of topology p r n == s) refl refl (each_is_from topology p r s n k) is
  where
    by : (h e : Bool) → hears topology p r n ≡ h → (source_of topology p r n == s) ≡ e
        → (round_from topology p r s n ≡ Some k → (k < n) × (hears topology p r k ≡ true) × (source_of topology p r k ≡ s))
        → (if h && e then Some n else round_from topology p r s n) ≡ Some k → (k < suc n) × (hears topology p r k ≡ true) × (source_of topology p r k ≡ s)
    by true true heard same less is = let at = same_Some n k is in
        (omega arith, subst (λ (k : ℕ). hears topology p r k ≡ true) at heard, subst (λ (k : ℕ). source_of topology p r k ≡ s) at (eqb-true (source_of topology p r n) s same))
    by true false heard same less is = let l = less is in let below = l.0 in (omega arith, l.1, l.2)
    by false e heard same less is = let l = less is in let below = l.0 in (omega arith, l.1, l.2)

module _ (topology : Topology) (p r k : ℕ) (are : AreRanks topology p) (there : r < p) (at : k < rounds_of topology p) (heard : hears topology p r k ≡ true) where
  finds : (n : ℕ) → k < n → n ≤ rounds_of topology p → round_from topology p r (source_of topology p r k) n ≡ Some k
  finds zero below within = absurd (let no : 1 ≤ 0 = omega arith in omega arith)
  finds (suc n) below within = by (hears topology p r n) (source_of topology p r n == source_of topology p r k) refl refl (λ less. finds n less (omega arith))
    where
      once : hears topology p r n ≡ true → source_of topology p r n ≡ source_of topology p r k → n ≡ k
      once told same = each_is_once topology p r n k are there (omega arith) at told heard same

      last : n ≡ k → (hears topology p r n && (source_of topology p r n == source_of topology p r k)) ≡ true
      last same = subst (λ (m : ℕ). (hears topology p r m && (source_of topology p r m == source_of topology p r k)) ≡ true) (sym same)
          (ap (λ (b : Bool). b && (source_of topology p r k == source_of topology p r k)) heard ∙ eq-eqb (source_of topology p r k) (source_of topology p r k) refl)

      by : (h e : Bool) → hears topology p r n ≡ h → (source_of topology p r n == source_of topology p r k) ≡ e
          → (k < n → round_from topology p r (source_of topology p r k) n ≡ Some k)
          → (if h && e then Some n else round_from topology p r (source_of topology p r k) n) ≡ Some k
      by true true told same less = ap Some (once told (eqb-true (source_of topology p r n) (source_of topology p r k) same))
      by true false told other less = other_round (nat_lt k n) refl
        where
          other_round : (b : Bool) → nat_lt k n ≡ b → round_from topology p r (source_of topology p r k) n ≡ Some k
          other_round true lt = less (ltb-true k n lt)
          other_round false le = absurd (let past = ltb-false k n le in let e = last (omega arith) in cc (e, told, other))
      by false e told other less = other_round (nat_lt k n) refl
        where
          other_round : (b : Bool) → nat_lt k n ≡ b → round_from topology p r (source_of topology p r k) n ≡ Some k
          other_round true lt = less (ltb-true k n lt)
          other_round false le = absurd (let past = ltb-false k n le in let same : n ≡ k = omega arith in
              let h : hears topology p r n ≡ true = subst (λ (m : ℕ). hears topology p r m ≡ true) (sym same) heard in cc (h, told))

pub each_is_found : EachIsFound
each_is_found topology p r k are there at heard = finds topology p r k are there at heard (rounds_of topology p) at (omega arith)
