-- Whoever is heard of, straight or by others, has begun.
use Rattle.std.proofs.Common.{◌≡◌, ℕ, zero, suc, ◌<◌, ◌≤◌, inl, inr, Bool, true, false, if◌then◌else◌, subst, arith}
use Rattle.fab_topology.specs.Begun.{AllBegun}
use Rattle.fab_topology.specs.Laws.{HeardBy}
use Rattle.fab_topology.specs.Rounds.{hears, is_doubling, rounds_of, source_of}
use Rattle.fab_topology.proofs.Pairs.{each_is_told}
use Rattle.fab_topology.proofs.Reaching.{all_hear}

module _ (R p : ℕ) (hear : ℕ → ℕ → Bool) (source : ℕ → ℕ → ℕ) (begun : ℕ → Bool) (came : ℕ → ℕ → Bool) (inside : (r k : ℕ) → r < p → k < R → hear r k ≡ true → source r k < p) where
  abbrev Sent : Bool → Type 0
  Sent doubles = (r k : ℕ) → r < p → k < R → hear r k ≡ true → came r k ≡ true
      → (begun (source r k) ≡ true) × ((j : ℕ) → j < (if doubles then k else 0) → hear (source r k) j ≡ true → came (source r k) j ≡ true)

  pub had_begun : (doubles : Bool) → Sent doubles → (u n t : ℕ) → n ≤ R → t < p → begun t ≡ true → ((k : ℕ) → k < n → hear t k ≡ true → came t k ≡ true)
      → HeardBy doubles hear source u n t → begun u ≡ true
  had_begun true sent u zero t upto there has each same = subst (λ (r : ℕ). begun r ≡ true) same has
  had_begun false sent u zero t upto there has each same = subst (λ (r : ℕ). begun r ≡ true) same has
  had_begun true sent u (suc n) t upto there has each (inl before) = had_begun true sent u n t (omega arith) there has (λ k below. each k (omega arith)) before
  had_begun false sent u (suc n) t upto there has each (inl before) = had_begun false sent u n t (omega arith) there has (λ k below. each k (omega arith)) before
  had_begun true sent u (suc n) t upto there has each (inr (told, before)) =
      let one = sent t n there (omega arith) told (each n (omega arith) told) in
      had_begun true sent u n (source t n) (omega arith) (inside t n there (omega arith) told) one.0 one.1 before
  had_begun false sent u (suc n) t upto there has each (inr (told, same)) =
      let one = sent t n there (omega arith) told (each n (omega arith) told) in subst (λ (r : ℕ). begun r ≡ true) same one.0

pub all_begun : AllBegun
all_begun topology p begun came are sent t there has each u is below =
    had_begun (rounds_of topology p) p (λ r k. hears topology p r k) (λ r k. source_of topology p r k) begun came (λ r k first at told. (each_is_told topology p r k are first at told).0)
    (is_doubling topology) sent u (rounds_of topology p) t (omega arith) there has each (all_hear topology p u t are is below there)
