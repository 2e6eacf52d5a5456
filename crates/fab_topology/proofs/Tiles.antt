-- The rounds of each topology follow one another without a gap.
use Rattle.std.proofs.Common.{◌≡◌, ℕ, zero, suc, ◌+◌, ◌-◌, ◌^◌, ◌<◌, ◌≤◌, min, Bool, true, false, if◌then◌else◌, refl, ap, arith}
use Rattle.std.specs.Prelude.{nat_lt}
use Rattle.std.proofs.lemmas.Bool.{ltb-true, ltb-false}
use Rattle.std.proofs.lemmas.Nat.{pow_pos}
use Rattle.std.proofs.Math.Nat.{pow-suc}
use Rattle.std.proofs.Math.Pow.{pow_mono}
use Rattle.fab_topology.specs.declared.kinds.Topology.TheVariants.{Mesh, Dissemination, Star, Tree}
use Rattle.fab_topology.specs.Rounds.{powers_below}
use Rattle.fab_topology.specs.Laws.{EachTiles, Tiles, reach}

-- ---- powers of two

pub below_powers : (n k p : ℕ) → k < powers_below n p → 2 ^ k < p
below_powers zero k p at = absurd (let no : 1 ≤ 0 = omega arith in omega arith)
below_powers (suc n) k p at = by (nat_lt (2 ^ n) p) refl (below_powers n k p) at
  where
    by : (b : Bool) → nat_lt (2 ^ n) p ≡ b → (k < powers_below n p → 2 ^ k < p) → k < (if b then suc n else powers_below n p) → 2 ^ k < p
    by true is less at = let last = ltb-true (2 ^ n) p is in let mono = pow_mono {i = k} {j = n} (omega arith) in omega arith
    by false is less at = less at

pub powers_reach : (n p : ℕ) → p ≤ 2 ^ n → p ≤ 2 ^ powers_below n p
powers_reach zero p most = most
powers_reach (suc n) p most = by (nat_lt (2 ^ n) p) refl (powers_reach n p)
  where
    by : (b : Bool) → nat_lt (2 ^ n) p ≡ b → (p ≤ 2 ^ n → p ≤ 2 ^ powers_below n p) → p ≤ 2 ^ (if b then suc n else powers_below n p)
    by true is less = most
    by false is less = less (ltb-false (2 ^ n) p is)

pub powers_are : (n k p : ℕ) → p ≤ 2 ^ n → 2 ^ k < p → p ≤ 2 ^ suc k → powers_below n p ≡ suc k
powers_are n k p most above within = by (nat_lt (powers_below n p) (suc k)) (nat_lt (suc k) (powers_below n p)) refl refl
  where
    by : (less more : Bool) → nat_lt (powers_below n p) (suc k) ≡ less → nat_lt (suc k) (powers_below n p) ≡ more → powers_below n p ≡ suc k
    by true more lt gt = absurd (let few = ltb-true (powers_below n p) (suc k) lt in let reached = powers_reach n p most in
        let least = pow_mono {i = powers_below n p} {j = k} (omega arith) in let no : 1 ≤ 0 = omega arith in omega arith)
    by false true lt gt = absurd (let below = below_powers n (suc k) p (ltb-true (suc k) (powers_below n p) gt) in let no : 1 ≤ 0 = omega arith in omega arith)
    by false false lt gt = let a = ltb-false (powers_below n p) (suc k) lt in let b = ltb-false (suc k) (powers_below n p) gt in omega arith

-- ---- straight, and by doubling

straight : (p : ℕ) → Tiles (p - 1) (λ k. k + 1) (λ k. 1) p
straight p = record {
  next = next;
  within = λ k at. omega arith;
  some = λ k at. omega arith;
  known = λ k at. omega arith;
  all = all (p - 1) refl;
}
  where
    next : (k : ℕ) → k < p - 1 → k + 1 ≡ reach (λ k. k + 1) (λ k. 1) k
    next zero at = refl
    next (suc k) at = omega arith

    all : (n : ℕ) → p - 1 ≡ n → p ≤ reach (λ k. k + 1) (λ k. 1) n
    all zero is = omega arith
    all (suc n) is = omega arith

twice : (k : ℕ) → 2 ^ suc k ≡ 2 ^ k + 2 ^ k
twice k = let e = pow-suc 2 k in omega arith

doubling : (n p : ℕ) → p ≤ 2 ^ n → Tiles (powers_below n p) (λ k. 2 ^ k) (λ k. min (2 ^ k) (p - 2 ^ k)) p
doubling n p most = record {
  next = next;
  within = λ k at. let below = below_powers n k p at in omega arith;
  some = λ k at. let below = below_powers n k p at in let more = pow_pos k in omega arith;
  known = λ k at. omega arith;
  all = all (powers_below n p) refl;
}
  where
    next : (k : ℕ) → k < powers_below n p → 2 ^ k ≡ reach (λ k. 2 ^ k) (λ k. min (2 ^ k) (p - 2 ^ k)) k
    next zero at = refl
    next (suc k) at = let below = below_powers n (suc k) p at in let double = twice k in omega arith

    all : (r : ℕ) → powers_below n p ≡ r → p ≤ reach (λ k. 2 ^ k) (λ k. min (2 ^ k) (p - 2 ^ k)) r
    all zero is = let e : 2 ^ powers_below n p ≡ 2 ^ 0 = ap (λ (r : ℕ). 2 ^ r) is in let reached = powers_reach n p most in omega arith
    all (suc r) is = let double = twice r in let e : 2 ^ powers_below n p ≡ 2 ^ suc r = ap (λ (r : ℕ). 2 ^ r) is in let reached = powers_reach n p most in omega arith

pub each_tiles : EachTiles
each_tiles Mesh p most = straight p
each_tiles (Star root) p most = straight p
each_tiles Dissemination p most = doubling 32 p most
each_tiles (Tree root) p most = doubling 32 p most

-- ---- what follows of any rounds without a gap

module _ (R : ℕ) (d w : ℕ → ℕ) (p : ℕ) (tiles : Tiles R d w p) where
  -- a later round is further off
  pub further_off : (j k : ℕ) → j < k → k < R → d j + w j ≤ d k
  further_off j zero lt at = absurd (let no : 1 ≤ 0 = omega arith in omega arith)
  further_off j (suc k) lt at = by (nat_lt j k) refl (λ less. further_off j k less (omega arith))
    where
      by : (b : Bool) → nat_lt j k ≡ b → (j < k → d j + w j ≤ d k) → d j + w j ≤ d (suc k)
      by true is less = let before = less (ltb-true j k is) in let next = tiles.next (suc k) at in omega arith
      by false is less = let last = ltb-false j k is in let same : j ≡ k = omega arith in let next = tiles.next (suc k) at in
          let one = ap d same in let two = ap w same in omega arith

  pub short : (k : ℕ) → k < R → d k < p
  short k at = let a = tiles.within k at in let b = tiles.some k at in omega arith

  pub apart : (k : ℕ) → k < R → 1 ≤ d k
  apart k at = let a = tiles.known k at in let b = tiles.some k at in omega arith

  -- a distance is that of one round
  pub one_round : (j k v : ℕ) → j < R → k < R → d j ≤ v → v < d j + w j → d k ≤ v → v < d k + w k → j ≡ k
  one_round j k v x y from to since upto = by (nat_lt j k) (nat_lt k j) refl refl
    where
      by : (less more : Bool) → nat_lt j k ≡ less → nat_lt k j ≡ more → j ≡ k
      by true more lt gt = absurd (let off = further_off j k (ltb-true j k lt) y in let no : 1 ≤ 0 = omega arith in omega arith)
      by false true lt gt = absurd (let off = further_off k j (ltb-true k j gt) x in let no : 1 ≤ 0 = omega arith in omega arith)
      by false false lt gt = let a = ltb-false j k lt in let b = ltb-false k j gt in omega arith
