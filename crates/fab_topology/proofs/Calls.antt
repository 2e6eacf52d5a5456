-- How many rounds there are, how far they go, and how many messages there are.
use Rattle.std.proofs.Common.{◌≡◌, ℕ, ◌+◌, ◌-◌, ◌*◌, ◌^◌, ◌<◌, ◌≤◌, Bool, true, false, if◌then◌else◌, refl, ap, arith}
use Rattle.std.specs.Prelude.{nat_lt}
use Rattle.std.specs.List.{range_with_len}
use Rattle.std.proofs.lemmas.Bool.{ltb-true, ltb-false}
use Rattle.std.proofs.lemmas.List.FromFn.{length-range_with_len}
use Rattle.std.proofs.lemmas.List.Sums.{count_by-le-length}
use Rattle.std.proofs.Math.Nat.{pow-suc}
use Rattle.fab_topology.specs.declared.kinds.Topology.{Topology}
use Rattle.fab_topology.specs.Rounds.{distance, is_doubling, powers_below, rounds_of, tells}
use Rattle.fab_topology.specs.Laws.{FewMessages}
use Rattle.fab_topology.proofs.Tiles.{below_powers, powers_are}

doubled : (topology : Topology) (p : ℕ) → is_doubling topology ≡ true → rounds_of topology p ≡ powers_below 32 p
doubled topology p is = ap (λ (b : Bool). if b then powers_below 32 p else p - 1) is

-- the highest bit of one less
pub doubling_rounds : (topology : Topology) (p r : ℕ) → is_doubling topology ≡ true → p ≤ 2 ^ 32 → 2 ≤ p → 2 ^ r ≤ p - 1 → p - 1 < 2 * 2 ^ r → r + 1 ≡ rounds_of topology p
doubling_rounds topology p r is most two low high = let e = pow-suc 2 r in
    let are = powers_are 32 r p most (omega arith) (omega arith) in let same = doubled topology p is in omega arith

-- no round goes all around
pub distance_below : (topology : Topology) (p k : ℕ) → k < rounds_of topology p → distance topology k < p
distance_below topology p k at = by (is_doubling topology) at
  where
    by : (b : Bool) → k < (if b then powers_below 32 p else p - 1) → (if b then 2 ^ k else k + 1) < p
    by true at = below_powers 32 k p at
    by false at = omega arith

pub few_messages : FewMessages
few_messages topology n p rank is most bits = let most_told = count_by-le-length (λ k. tells topology p rank k) (range_with_len 0 (rounds_of topology p)) in
    let all = length-range_with_len 0 (rounds_of topology p) in let same = doubled topology p is in
    let few = rounds (powers_below 32 p) refl in omega arith
  where
    rounds : (r : ℕ) → powers_below 32 p ≡ r → r ≤ n
    rounds r same = by (nat_lt n r) refl
      where
        by : (b : Bool) → nat_lt n r ≡ b → r ≤ n
        by true lt = absurd (let more = ltb-true n r lt in let below = below_powers 32 n p (omega arith) in let no : 1 ≤ 0 = omega arith in omega arith)
        by false le = ltb-false n r le
