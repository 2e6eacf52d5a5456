-- Lanes in their circle: how far ahead each is.
use Rattle.std.proofs.Common.{◌≡◌, ◌<◌, ◌≤◌, ◌+◌, ◌-◌, ◌⊎◌, inl, inr, ℕ, Bool, true, false, refl, arith}
use Rattle.std.specs.Prelude.{nat_le}
use Rattle.std.proofs.lemmas.Bool.Decides.{nat_tests}
use Rattle.fab_face.specs.declared.lanes.Lane.{Lane}
use Rattle.fab_face.specs.declared.lanes.Lane.TheVariants.{To, From}
use Rattle.fab_face.specs.Circle.{IsOf, ahead, ahead_by, number, round}

pub number_below : (peers : ℕ) (l : Lane) → IsOf peers l → number l < round peers
number_below peers (To d) below = omega (arith, below)
number_below peers (From s) below = omega (arith, below)

-- how far ahead a lane is, by its number
abbrev pub AheadAs : ℕ → Lane → Lane → ℕ → Type 0
AheadAs peers next l n = ((number next ≤ number l) × (n ≡ number l - number next)) ⊎ ((number l < number next) × (n ≡ number l + round peers - number next))

pub ahead_as : (peers : ℕ) (next l : Lane) → AheadAs peers next l (ahead peers next l)
ahead_as peers next l = by (nat_le (number next) (number l)) refl
  where
    by : (b : Bool) → nat_le (number next) (number l) ≡ b → AheadAs peers next l (ahead_by b (round peers) (number next) (number l))
    by true is = inl (grind (arith, nat_tests, is), refl)
    by false is = inr (grind (arith, nat_tests, is), refl)

pub ahead_below : (peers : ℕ) (from l : Lane) → IsOf peers l → ahead peers from l < round peers
ahead_below peers from l is_l = by (ahead peers from l) (ahead_as peers from l)
  where
    few_l : number l < round peers
    few_l = number_below peers l is_l

    by : (k : ℕ) → AheadAs peers from l k → k < round peers
    by k (inl (le, is)) = omega (arith, le, is, few_l)
    by k (inr (lt, is)) = omega (arith, lt, is, few_l)
