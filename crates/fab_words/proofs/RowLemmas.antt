-- The lines of a file, taken one after another.
use Rattle.std.proofs.Common.{◌≡◌, ℕ, ◌<◌, true, false, ltb, List, [], ◌∷◌, inl, inr, length, sym, ap, ◌∙◌, refl, arith}
use Rattle.std.specs.List.{before_first, after_first, slice_split}
use Rattle.std.proofs.lemmas.Bool.Decides.{nat_tests}
use Rattle.std.proofs.lemmas.List.Splits.{length-slice_split}
use Rattle.fab_words.specs.Rows.{is_line_feed, lines_of_parts, without_return, first_line, lines_of}
use Rattle.fab_words.proofs.CutLemmas.{parts_of_cut}

-- the first of several parts is a line, without its carriage return
pub parts_more : (part : List ℕ) (parts : List (List ℕ)) → 0 < length parts → lines_of_parts (part ∷ parts) ≡ without_return part ∷ lines_of_parts parts
parts_more part [] h = absurd (omega arith)
parts_more part (next ∷ parts) h = refl

parts_one : (part : List ℕ) → 0 < length part → lines_of_parts (part ∷ []) ≡ part ∷ []
parts_one [] h = absurd (omega arith)
parts_one (b ∷ bs) h = refl

pub lines_of_cut : (xs : List ℕ) → 0 < length xs → lines_of xs ≡ first_line xs ∷ lines_of (after_first is_line_feed xs)
unfolding lines_of
lines_of_cut xs h =
    elim (parts_of_cut is_line_feed xs) [
      | inl w ↦
          let ended : ltb (length (before_first is_line_feed xs)) (length xs) ≡ true = grind (arith, nat_tests, w.ended) in
          ap lines_of_parts w.parts ∙ parts_more _ _ (omega (arith, length-slice_split is_line_feed (after_first is_line_feed xs))) ∙ rw ended refl
      | inr w ↦
          let filled : 0 < length (before_first is_line_feed xs) = omega (arith, ap length w.all) in
          let open_end : ltb (length (before_first is_line_feed xs)) (length xs) ≡ false = grind (arith, nat_tests, ap length w.all) in
          ap lines_of_parts w.parts ∙ parts_one _ filled
          ∙ ap (λ ys. before_first is_line_feed xs ∷ lines_of_parts (slice_split is_line_feed ys)) (sym w.rest) ∙ rw open_end refl
    ]

pub lines_of_none : (xs : List ℕ) → length xs ≡ 0 → lines_of xs ≡ []
unfolding lines_of
lines_of_none [] e = refl
lines_of_none (x ∷ xs) e = absurd (omega arith)

-- a step over a line
pub ruleset next_line = (lines_of_none, lines_of_cut)
