-- A list, cut at the first byte of a kind.
use Rattle.std.proofs.Common.{◌≡◌, ℕ, ◌+◌, ◌-◌, ◌<◌, ◌≤◌, Bool, true, false, List, [], ◌∷◌, length, take, drop, Some, None, sym, ap, ◌∙◌, refl, arith, eqb, length-drop}
use Rattle.std.specs.List.{position, position_or_len, slice_split}
use Rattle.std.proofs.lemmas.Bool.Decides.{nat_tests}
use Rattle.std.proofs.lemmas.List.{take_all}
use Rattle.std.proofs.lemmas.List.Sums.{fails_before_first}
use Rattle.std.proofs.lemmas.List.Splits.{slice_split_first, slice_split_none}
use Rattle.std.specs.List as std
use Rattle.fab_base.proofs.Options.{picked, passed_over}
use Rattle.fab_model.specs.Words.{pieces_at, onto_first}

same_front : (x : ℕ) (pieces : List (List ℕ)) → std.onto_first x pieces ≡ onto_first x pieces
same_front x [] = refl
same_front x (p ∷ ps) = refl

split_step : (c x : ℕ) (xs : List ℕ) (b : Bool) → eqb x c ≡ b → pieces_at c xs ≡ slice_split (λ y. eqb y c) xs → pieces_at c (x ∷ xs) ≡ slice_split (λ y. eqb y c) (x ∷ xs)
split_step c x xs true e ih = rw (e, pieces_at) (ap (λ ps. [] ∷ ps) ih)
split_step c x xs false e ih = rw (e, pieces_at) (ap (onto_first x) ih ∙ sym (same_front x _))

pub same_split : (c : ℕ) (xs : List ℕ) → pieces_at c xs ≡ slice_split (λ y. eqb y c) xs
same_split c [] = refl
same_split c (x ∷ xs) = split_step c x xs (eqb x c) refl (same_split c xs)

-- the pieces, where the cut is given by its place
pub pieces_some : (c : ℕ) (xs : List ℕ) (i : ℕ) → position (λ y. eqb y c) xs ≡ Some i → pieces_at c xs ≡ take i xs ∷ pieces_at c (take (length xs - (i + 1)) (drop (i + 1) xs))
pieces_some c xs i e =
    let p = λ (y : ℕ). eqb y c in
    let place = picked _ _ _ e in
    let first : position_or_len p xs ≡ i = place.1 in
    let within : position_or_len p xs < length xs = grind (arith, nat_tests, place.0) in
    let rest : length (drop (i + 1) xs) ≤ length xs - (i + 1) = omega (arith, length-drop (i + 1) xs) in
    same_split c xs ∙ slice_split_first p xs 0 within
    ∙ ap (λ n. take n xs ∷ slice_split p (drop (n + 1) xs)) first
    ∙ ap (λ ys. take i xs ∷ ys) (sym (same_split c (drop (i + 1) xs)) ∙ ap (pieces_at c) (sym (take_all _ _ rest)))

pub pieces_none : (c : ℕ) (xs : List ℕ) → position (λ y. eqb y c) xs ≡ None → pieces_at c xs ≡ xs ∷ []
pieces_none c xs e =
    let p = λ (y : ℕ). eqb y c in
    let over = passed_over _ _ e in
    let past : length xs ≤ position_or_len p xs = grind (arith, nat_tests, over) in
    same_split c xs ∙ slice_split_none p xs (λ k d h. fails_before_first p xs k d (omega arith))

-- what `first_piece` gives
pub ruleset splits = (pieces_some, pieces_none)
