-- A list, cut at the first element that passes a test.
use Rattle.std.proofs.Common.{◌≡◌, ◌≢◌, ℕ, ◌+◌, ◌-◌, ◌<◌, ◌≤◌, Bool, false, List, [], ◌∷◌, ◌⊎◌, inl, inr, length, take, drop, Some, None, sym, ap, ◌∙◌, refl, arith, length-drop, length-take}
use Rattle.std.specs.List.{position, position_or_len, before_first, after_first, slice_split, All}
use Rattle.std.proofs.lemmas.Bool.Decides.{nat_tests}
use Rattle.std.proofs.lemmas.List.{take_all, drop_all}
use Rattle.std.proofs.lemmas.List.Sums.{fails_before_first}
use Rattle.std.proofs.lemmas.List.Splits.{slice_split_first, slice_split_none, length-slice_split}
use Rattle.std.specs.Prelude.{Err}
use Rattle.fab_words.specs.declared.misread.Misread.TheVariants.{Words}
use Rattle.fab_words.specs.Bytes.{file_range}
use Rattle.std.proofs.lemmas.Bool.{cases_lt}
use Rattle.fab_base.proofs.Options.{picked, passed_over}

-- the cut at the place that `position` gives
pub cut_at : (p : ℕ → Bool) (xs : List ℕ) (i : ℕ) → position p xs ≡ Some i → (take i xs ≡ before_first p xs) × (take (length xs - (i + 1)) (drop (i + 1) xs) ≡ after_first p xs) × (i < length xs)
cut_at p xs i e =
    let place = picked _ _ _ e in
    let first : position_or_len p xs ≡ i = place.1 in
    let within : position_or_len p xs < length xs = grind (arith, nat_tests, place.0) in
    let rest : length (drop (i + 1) xs) ≤ length xs - (i + 1) = omega (arith, length-drop (i + 1) xs) in
    (ap (λ n. take n xs) (sym first), take_all _ _ rest ∙ ap (λ n. drop (n + 1) xs) (sym first), omega arith)

-- nothing is cut off where there is no such place
pub cut_nowhere : (p : ℕ → Bool) (xs : List ℕ) → position p xs ≡ None → (xs ≡ before_first p xs) × ([] ≡ after_first p xs)
cut_nowhere p xs e =
    let over = passed_over _ _ e in
    let past : length xs ≤ position_or_len p xs = grind (arith, nat_tests, over) in
    let beyond : length xs ≤ position_or_len p xs + 1 = omega arith in
    (sym (take_all _ _ past), sym (drop_all _ _ beyond))

-- the parts are the part before the cut, and those of what is after it
pub record CutOff (p : ℕ → Bool) (xs : List ℕ) : Type 0 where
  pub parts : slice_split p xs ≡ before_first p xs ∷ slice_split p (after_first p xs)
  pub ended : length (before_first p xs) < length xs

pub record CutNowhere (p : ℕ → Bool) (xs : List ℕ) : Type 0 where
  pub parts : slice_split p xs ≡ before_first p xs ∷ []
  pub all : before_first p xs ≡ xs
  pub rest : after_first p xs ≡ []

pub parts_of_cut : (p : ℕ → Bool) (xs : List ℕ) → CutOff p xs ⊎ CutNowhere p xs
parts_of_cut p xs =
    elim (cases_lt (position_or_len p xs) (length xs)) [
      | inl within ↦ inl (record { parts = slice_split_first p xs 0 within; ended = omega (arith, length-take (position_or_len p xs) xs) })
      | inr past ↦
          let beyond : length xs ≤ position_or_len p xs + 1 = omega arith in
          let all = take_all _ xs past in
          let none : All (λ x. p x ≡ false) xs = λ k d h. fails_before_first p xs k d (omega arith) in
          inr (record { parts = slice_split_none p xs none ∙ ap (λ ys. ys ∷ []) (sym all); all = all; rest = drop_all _ xs beyond })
    ]

-- the parts, where the cut is given by its place
pub split_at : (p : ℕ → Bool) (xs : List ℕ) (i : ℕ) → position p xs ≡ Some i → slice_split p xs ≡ take i xs ∷ slice_split p (take (length xs - (i + 1)) (drop (i + 1) xs))
split_at p xs i e =
    let place = picked _ _ _ e in
    let cuts = cut_at p xs i e in
    let first : position_or_len p xs ≡ i = place.1 in
    let within : position_or_len p xs < length xs = omega (arith, cuts.2) in
    rw (cuts.0, cuts.1) (slice_split_first p xs 0 within)

pub split_nowhere : (p : ℕ → Bool) (xs : List ℕ) → position p xs ≡ None → slice_split p xs ≡ xs ∷ []
split_nowhere p xs e =
    let over = passed_over _ _ e in
    let past : length xs ≤ position_or_len p xs = grind (arith, nat_tests, over) in
    slice_split_none p xs (λ k d h. fails_before_first p xs k d (omega arith))

-- what `first_name` gives
pub ruleset splits = (split_at, split_nowhere)

-- what is after the cut is shorter
pub after_first_shorter : (p : ℕ → Bool) (xs : List ℕ) → 0 < length xs → length (after_first p xs) < length xs
after_first_shorter p xs h = omega (arith, length-drop (position_or_len p xs + 1) xs)

-- what `cut` gives
pub ruleset cuts = (cut_at, cut_nowhere)

-- a text has at least one part
pub parts_filled : (p : ℕ → Bool) (xs : List ℕ) → 0 < length (slice_split p xs)
parts_filled p xs = omega (arith, length-slice_split p xs)

-- a range of another number of parts
pub file_range_other : (most : ℕ) (parts : List (List ℕ)) → length parts ≢ 3 → file_range most parts ≡ Err Words
file_range_other most (a ∷ b ∷ c ∷ []) h = absurd (h (omega arith))
file_range_other most _ h = refl
