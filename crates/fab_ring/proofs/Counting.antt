-- How many flags are up.
use Rattle.std.proofs.Common.{◌≡◌, ◌≢◌, ℕ, zero, suc, ◌+◌, ◌<◌, ◌≤◌, Bool, true, false, cond, List, length, get_or, set, replicate, sym, refl, ap, ◌∙◌, arith, get_or-set_other}
use mathlib.Core.Logic.{dite}
use native.Mathlib.Decide.{dec_lt}
use Rattle.std.proofs.lemmas.List.{get_or_past}
use Rattle.std.proofs.lemmas.List.Sums.{sum_by-cons, sum_by-set, get_or-le-sum_by}
use Rattle.fab_ring.specs.Hands.{ups}

abbrev bit : Bool → ℕ
bit up = cond up 1 0

is_down : (b : Bool) → bit b ≤ 0 → b ≡ false
is_down true le = absurd (let no : 1 ≤ 0 = le in omega arith)
is_down false le = refl

pub ups_new : (n : ℕ) → ups (replicate n false) ≡ 0
ups_new zero = refl
ups_new (suc n) = let e : ups (replicate (suc n) false) ≡ 0 + ups (replicate n false) = sum_by-cons bit false (replicate n false) in let rest = ups_new n in omega arith

pub ups_more : (n : ℕ) (l : List Bool) (s : ℕ) → n ≡ ups l → s < length l → get_or l s false ≡ false → n + 1 ≡ ups (set l s true)
ups_more n l s count near down = let e : ups (set l s true) + bit (get_or l s false) ≡ ups l + 1 = sum_by-set bit l s true false near in let z : bit (get_or l s false) ≡ 0 = ap bit down in omega arith

pub ups_less : (n : ℕ) (l : List Bool) (s : ℕ) → n ≡ ups l → s < length l → get_or l s false ≡ true → n ≡ ups (set l s false) + 1
ups_less n l s count near up = let e : ups (set l s false) + bit (get_or l s false) ≡ ups l + 0 = sum_by-set bit l s false false near in let z : bit (get_or l s false) ≡ 1 = ap bit up in omega arith

none_up : (l : List Bool) (s : ℕ) → ups l ≡ 0 → get_or l s false ≡ false
none_up l s none = dite (dec_lt s (length l))
    (λ near. is_down (get_or l s false) (let le : bit (get_or l s false) ≤ ups l = get_or-le-sum_by bit l s false near in omega arith))
    (λ far. get_or_past l s false (omega arith))

-- where no more are up than this one, no other is
pub only_up : (l : List Bool) (s : ℕ) → s < length l → ups l ≡ cond (get_or l s false) 1 0 → (x : ℕ) → x ≢ s → get_or l x false ≡ false
only_up l s near count x ne = let e : ups (set l s false) + bit (get_or l s false) ≡ ups l + 0 = sum_by-set bit l s false false near in
    sym (get_or-set_other l s x false false ne) ∙ none_up (set l s false) x (omega arith)
