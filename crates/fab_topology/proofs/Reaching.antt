-- After all rounds each has heard of each, or of the root.
use Rattle.std.proofs.Common.{◌≡◌, ℕ, zero, suc, ◌-◌, ◌<◌, ◌≤◌, inl, inr, Bool, true, false, refl, sym, subst, arith}
use Rattle.std.specs.Prelude.{nat_lt}
use Rattle.std.proofs.lemmas.Bool.{ltb-true, ltb-false}
use Rattle.fab_topology.specs.declared.kinds.Topology.TheVariants.{Mesh, Dissemination, Star, Tree}
use Rattle.fab_topology.specs.Rounds.{ahead, behind, distance, is_reached, rounds_of, width}
use Rattle.fab_topology.specs.Laws.{AllHear, HeardBy, Tiles, reach}
use Rattle.fab_topology.proofs.Steps.{IsAhead, ahead_below, ahead_is, behind_below, behind_is, rest}
use Rattle.fab_topology.proofs.Pairs.{back, reaches}
use Rattle.fab_topology.proofs.Tiles.{each_tiles, short}

none_off : (p t v u : ℕ) → t < p → u < p → v ≡ 0 → IsAhead p t v u → t ≡ u
none_off p t v u x y none (inl e) = omega arith
none_off p t v u x y none (inr e) = omega arith

-- straight a message tells of its sender alone
abbrev Alone : Bool → (ℕ → ℕ) → Type 0
Alone true w = Unit {0}
Alone false w = (k : ℕ) → w k ≡ 1

module _ (R : ℕ) (d w : ℕ → ℕ) (p : ℕ) (tiles : Tiles R d w p) where
  far : (k v : ℕ) → k < R → v < reach d w (suc k) → d k ≤ v → v - d k < w k
  far k v at upto from = omega arith

  near : (k v : ℕ) → k < R → v < d k → v < reach d w k
  near k v at less = let next = tiles.next k at in omega arith

  -- each has something for each
  abbrev By : Bool → ℕ → ℕ → ℕ → Type 0
  By doubles u n t = HeardBy doubles (λ r k. true) (λ r k. ahead p r (d k)) u n t

  by_each : (doubles : Bool) → Alone doubles w → (u : ℕ) → u < p → (n t v : ℕ) → n ≤ R → t < p → IsAhead p t v u → v < reach d w n → By doubles u n t
  by_each true alone u last zero t v upto there is within = none_off p t v u there last (omega arith) is
  by_each false alone u last zero t v upto there is within = none_off p t v u there last (omega arith) is
  by_each true alone u last (suc n) t v upto there is within = by (nat_lt v (d n)) refl (λ s v. by_each true alone u last n s v (omega arith))
    where
      off : d n < p
      off = short R d w p tiles n (omega arith)

      by : (b : Bool) → nat_lt v (d n) ≡ b → ((s v : ℕ) → s < p → IsAhead p s v u → v < reach d w n → By true u n s) → By true u (suc n) t
      by true less before = inl (before t v there is (near n v (omega arith) (ltb-true v (d n) less)))
      by false more before = let from = ltb-false v (d n) more in let s = ahead p t (d n) in let below = ahead_below p t (d n) there (omega (arith, off)) in
          let few = far n v (omega arith) within from in let known = tiles.known n (omega arith) in
          inr (refl, before s (v - d n) below (rest p t v u (d n) s last below from is (ahead_is p t (d n) there (omega (arith, off)))) (near n (v - d n) (omega arith) (omega arith)))
  by_each false alone u last (suc n) t v upto there is within = by (nat_lt v (d n)) refl (λ s v. by_each false alone u last n s v (omega arith))
    where
      off : d n < p
      off = short R d w p tiles n (omega arith)

      by : (b : Bool) → nat_lt v (d n) ≡ b → ((s v : ℕ) → s < p → IsAhead p s v u → v < reach d w n → By false u n s) → By false u (suc n) t
      by true less before = inl (before t v there is (near n v (omega arith) (ltb-true v (d n) less)))
      by false more before = let from = ltb-false v (d n) more in let s = ahead p t (d n) in let below = ahead_below p t (d n) there (omega (arith, off)) in
          let few = far n v (omega arith) within from in let one = alone n in
          inr (refl, none_off p s (v - d n) u below last (omega arith) (rest p t v u (d n) s last below from is (ahead_is p t (d n) there (omega (arith, off)))))

  pub all_each : (doubles : Bool) → Alone doubles w → (u t : ℕ) → u < p → t < p → By doubles u R t
  all_each doubles alone u t last there = let all = tiles.all in let below = behind_below p u t last (omega arith) in
      by_each doubles alone u last R t (behind p u t) (omega arith) there (turned (behind_is p u t last (omega arith))) (omega arith)
    where
      turned : IsAhead p (behind p u t) t u → IsAhead p t (behind p u t) u
      turned (inl e) = inl (omega arith)
      turned (inr e) = inr (omega arith)

  -- the root has something for all
  module _ (root : ℕ) (first : root < p) where
    abbrev From : Bool → ℕ → ℕ → Type 0
    From doubles n t = HeardBy doubles (λ r k. is_reached (d k) (w k) (behind p r root)) (λ r k. behind p r (d k)) root n t

    at_root : (t v : ℕ) → t < p → v ≡ behind p t root → v ≡ 0 → t ≡ root
    at_root t v there steps none = by (behind_is p t root there (omega arith))
      where
        by : IsAhead p (behind p t root) root t → t ≡ root
        by (inl e) = omega arith
        by (inr e) = omega arith

    from_root : (doubles : Bool) → Alone doubles w → (n t v : ℕ) → n ≤ R → t < p → v ≡ behind p t root → v < reach d w n → From doubles n t
    from_root true alone zero t v upto there steps within = at_root t v there steps (omega arith)
    from_root false alone zero t v upto there steps within = at_root t v there steps (omega arith)
    from_root true alone (suc n) t v upto there steps within = by (nat_lt v (d n)) refl (λ s v. from_root true alone n s v (omega arith))
      where
        off : d n < p
        off = short R d w p tiles n (omega arith)

        by : (b : Bool) → nat_lt v (d n) ≡ b → ((s v : ℕ) → s < p → v ≡ behind p s root → v < reach d w n → From true n s) → From true (suc n) t
        by true less before = inl (before t v there steps (near n v (omega arith) (ltb-true v (d n) less)))
        by false more before = let from = ltb-false v (d n) more in let s = behind p t (d n) in let below = behind_below p t (d n) there (omega (arith, off)) in
            let few = far n v (omega arith) within from in let known = tiles.known n (omega arith) in
            inr (
              subst (λ (v : ℕ). is_reached (d n) (w n) v ≡ true) steps (reaches (d n) (w n) v from few),
              before s (v - d n) below (back R d w p tiles t n there (omega arith) root first v steps from) (near n (v - d n) (omega arith) (omega arith)),
            )
    from_root false alone (suc n) t v upto there steps within = by (nat_lt v (d n)) refl (λ s v. from_root false alone n s v (omega arith))
      where
        off : d n < p
        off = short R d w p tiles n (omega arith)

        by : (b : Bool) → nat_lt v (d n) ≡ b → ((s v : ℕ) → s < p → v ≡ behind p s root → v < reach d w n → From false n s) → From false (suc n) t
        by true less before = inl (before t v there steps (near n v (omega arith) (ltb-true v (d n) less)))
        by false more before = let from = ltb-false v (d n) more in let s = behind p t (d n) in let below = behind_below p t (d n) there (omega (arith, off)) in
            let few = far n v (omega arith) within from in let one = alone n in
            inr (
              subst (λ (v : ℕ). is_reached (d n) (w n) v ≡ true) steps (reaches (d n) (w n) v from few),
              at_root s (v - d n) below (back R d w p tiles t n there (omega arith) root first v steps from) (omega arith),
            )

    pub all_from : (doubles : Bool) → Alone doubles w → (u t : ℕ) → u ≡ root → t < p → HeardBy doubles (λ r k. is_reached (d k) (w k) (behind p r root)) (λ r k. behind p r (d k)) u R t
    all_from doubles alone u t same there = let all = tiles.all in let below = behind_below p t root there (omega arith) in
        subst (λ (u : ℕ). HeardBy doubles (λ r k. is_reached (d k) (w k) (behind p r root)) (λ r k. behind p r (d k)) u R t) (sym same)
        (from_root doubles alone R t (behind p t root) (omega arith) there refl (omega arith))

pub all_hear : AllHear
all_hear Mesh p u t are for last there = all_each (rounds_of Mesh p) (λ k. distance Mesh k) (λ k. width Mesh p k) p (each_tiles Mesh p are.1) false (λ k. refl) u t last there
all_hear Dissemination p u t are for last there = all_each (rounds_of Dissemination p) (λ k. distance Dissemination k) (λ k. width Dissemination p k) p (each_tiles Dissemination p are.1) true tt u t last there
all_hear (Star root) p u t are for last there = all_from (rounds_of (Star root) p) (λ k. distance (Star root) k) (λ k. width (Star root) p k) p (each_tiles (Star root) p are.1) root are.0 false (λ k. refl) u t for there
all_hear (Tree root) p u t are for last there = all_from (rounds_of (Tree root) p) (λ k. distance (Tree root) k) (λ k. width (Tree root) p k) p (each_tiles (Tree root) p are.1) root are.0 true tt u t for there
