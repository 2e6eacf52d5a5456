-- Lanes in their circle: where each stands, one behind another.
use Rattle.std.proofs.Common.{◌≡◌, ◌<◌, ◌≤◌, ◌+◌, inl, inr, ℕ, sym, ap, subst, arith}
use Rattle.std.proofs.lemmas.Bool.{cases_eq}
use Rattle.fab_face.specs.declared.lanes.Lane.{Lane}
use Rattle.fab_face.specs.declared.lanes.Lane.TheVariants.{To, From}
use Rattle.fab_face.specs.Circle.{IsOf, ahead, number, round}
use Rattle.fab_face.proofs.Circle.{AheadAs, ahead_as, number_below}
use Rattle.fab_ep.specs.Circle.{Follows, InCircle, StandsAt}

number_is : (l m : Lane) → number l ≡ number m → l ≡ m
number_is (To d) (To e) same = (let is : d ≡ e = omega (arith, same) in ap To is)
number_is (To d) (From t) same = absurd (omega (arith, same))
number_is (From s) (To e) same = absurd (omega (arith, same))
number_is (From s) (From t) same = (let is : s ≡ t = omega (arith, same) in ap From is)

-- ---- one lane behind another

pub stands_none : (peers : ℕ) (from : Lane) → StandsAt peers from 0 from
stands_none peers from = inl (omega arith)

pub stands_next : (peers : ℕ) (from l next : Lane) (n : ℕ) → IsOf peers from → IsOf peers l → n < round peers → StandsAt peers from n l → Follows peers l next → StandsAt peers from (n + 1) next
stands_next peers from l next n is_from is_l below at follows = by l is_l at follows
  where
    few : number from < round peers
    few = number_below peers from is_from

    by : (l : Lane) → IsOf peers l → StandsAt peers from n l → Follows peers l next → StandsAt peers from (n + 1) next
    by (To d) is (inl at) follows = rw follows (inl (omega (arith, at)))
    by (To d) is (inr at) follows = rw follows (inr (omega (arith, at)))
    by (From s) is (inl at) (inl (more, follows)) = rw follows (inl (omega (arith, at)))
    by (From s) is (inr at) (inl (more, follows)) = rw follows (inr (omega (arith, at)))
    by (From s) is (inl at) (inr (last, follows)) = rw follows (inr (omega (arith, at, last, is)))
    by (From s) is (inr at) (inr (last, follows)) = absurd (omega (arith, at, last, is, few, below))

pub follows_of : (peers : ℕ) (l next : Lane) → IsOf peers l → Follows peers l next → InCircle peers next
follows_of peers (To d) next below follows some = rw follows below
follows_of peers (From s) next below (inl (more, follows)) some = rw follows more
follows_of peers (From s) next below (inr (last, follows)) some = rw follows some

-- ---- how far ahead

pub ahead_here : (peers : ℕ) (from l : Lane) (n : ℕ) → IsOf peers from → IsOf peers l → n < round peers → StandsAt peers from n l → ahead peers from l ≡ n
ahead_here peers from l n is_from is_l below at = by (ahead peers from l) (ahead_as peers from l) at
  where
    few : number from < round peers
    few = number_below peers from is_from

    few_l : number l < round peers
    few_l = number_below peers l is_l

    by : (k : ℕ) → AheadAs peers from l k → StandsAt peers from n l → k ≡ n
    by k (inl (le, is)) (inl at) = omega (arith, le, is, at)
    by k (inl (le, is)) (inr at) = absurd (omega (arith, le, at, below, few, few_l))
    by k (inr (lt, is)) (inl at) = absurd (omega (arith, lt, at))
    by k (inr (lt, is)) (inr at) = omega (arith, lt, is, at, few)

-- only one lane is so far ahead
pub ahead_one : (peers : ℕ) (from l m : Lane) → IsOf peers from → IsOf peers l → IsOf peers m → ahead peers from l ≡ ahead peers from m → l ≡ m
ahead_one peers from l m is_from is_l is_m same = number_is l m (by (ahead peers from l) (ahead peers from m) (ahead_as peers from l) (ahead_as peers from m) same)
  where
    few : number from < round peers
    few = number_below peers from is_from

    few_l : number l < round peers
    few_l = number_below peers l is_l

    few_m : number m < round peers
    few_m = number_below peers m is_m

    by : (i j : ℕ) → AheadAs peers from l i → AheadAs peers from m j → i ≡ j → number l ≡ number m
    by i j (inl (le, is)) (inl (le2, is2)) same = omega (arith, le, is, le2, is2, same)
    by i j (inl (le, is)) (inr (lt2, is2)) same = absurd (omega (arith, le, is, lt2, is2, same, few, few_l, few_m))
    by i j (inr (lt, is)) (inl (le2, is2)) same = absurd (omega (arith, lt, is, le2, is2, same, few, few_l, few_m))
    by i j (inr (lt, is)) (inr (lt2, is2)) same = omega (arith, lt, is, lt2, is2, same, few)

-- from the lane that is so many behind, one farther ahead is so much nearer
pub ahead_nearer : (peers : ℕ) (from next l : Lane) (n : ℕ) → IsOf peers from → IsOf peers next → IsOf peers l → StandsAt peers from n next → n ≤ ahead peers from l → n + ahead peers next l ≡ ahead peers from l
ahead_nearer peers from next l n is_from is_next is_l at far = by (ahead peers from l) (ahead peers next l) (ahead_as peers from l) (ahead_as peers next l) at far
  where
    few : number from < round peers
    few = number_below peers from is_from

    few_n : number next < round peers
    few_n = number_below peers next is_next

    few_l : number l < round peers
    few_l = number_below peers l is_l

    by : (i j : ℕ) → AheadAs peers from l i → AheadAs peers next l j → StandsAt peers from n next → n ≤ i → n + j ≡ i
    by i j (inl (le, is)) (inl (le2, is2)) (inl at) far = omega (arith, le, is, le2, is2, at, far)
    by i j (inl (le, is)) (inl (le2, is2)) (inr at) far = absurd (omega (arith, le, is, le2, is2, at, far, few, few_n, few_l))
    by i j (inl (le, is)) (inr (lt2, is2)) (inl at) far = absurd (omega (arith, le, is, lt2, is2, at, far, few, few_n, few_l))
    by i j (inl (le, is)) (inr (lt2, is2)) (inr at) far = absurd (omega (arith, le, is, lt2, is2, at, far, few, few_n, few_l))
    by i j (inr (lt, is)) (inl (le2, is2)) (inl at) far = absurd (omega (arith, lt, is, le2, is2, at, far, few, few_n, few_l))
    by i j (inr (lt, is)) (inl (le2, is2)) (inr at) far = omega (arith, lt, is, le2, is2, at, far, few, few_n, few_l)
    by i j (inr (lt, is)) (inr (lt2, is2)) (inl at) far = omega (arith, lt, is, lt2, is2, at, far, few, few_n, few_l)
    by i j (inr (lt, is)) (inr (lt2, is2)) (inr at) far = absurd (omega (arith, lt, is, lt2, is2, at, far, few, few_n, few_l))

-- once round, the first lane is next again
pub round_back : (peers : ℕ) (from next : Lane) → InCircle peers from → InCircle peers next → StandsAt peers from (round peers) next → next ≡ from
round_back peers from next is_from is_next at = number_is next from (elim (cases_eq peers 0) [
  | inl none ↦ by_none at none
  | inr some ↦ by (number_below peers from (is_from (omega (arith, some)))) (number_below peers next (is_next (omega (arith, some)))) at
])
  where
    by_none : StandsAt peers from (round peers) next → peers ≡ 0 → number next ≡ number from
    by_none (inl at) none = omega (arith, at, none)
    by_none (inr at) none = omega (arith, at, none)

    by : number from < round peers → number next < round peers → StandsAt peers from (round peers) next → number next ≡ number from
    by few few_n (inl at) = absurd (omega (arith, at, few_n))
    by few few_n (inr at) = omega (arith, at)

pub some_of : (peers : ℕ) (l : Lane) → IsOf peers l → 0 < peers
some_of peers (To d) below = omega (arith, below)
some_of peers (From s) below = omega (arith, below)

pub circle_on : (m n : ℕ) (l : Lane) → n ≡ m → InCircle m l → InCircle n l
circle_on m n l same is = subst (λ k. InCircle k l) (sym same) is
