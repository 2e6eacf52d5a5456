-- The words of a line, taken one after another.
use Rattle.std.proofs.Common.{◌≡◌, ℕ, ◌<◌, Bool, true, false, cond, List, [], ◌∷◌, inl, inr, length, sym, ap, ◌∙◌, refl, arith}
use Rattle.std.specs.List.{before_first, after_first, slice_split, filter}
use Rattle.std.specs.Str.{IsUtf8, is_utf8}
use Rattle.std.proofs.lemmas.Str.{IsUtf8-from_is_utf8}
pub use Rattle.std.proofs.lemmas.Str.{is_utf8-from_IsUtf8 as is_text_utf8}
use Rattle.fab_words.specs.Rows.{is_filled, is_blank, blank_split}
use Rattle.fab_words.proofs.CutLemmas.{parts_of_cut, after_first_shorter}

pub blank_split_nil : blank_split [] ≡ []
unfolding blank_split
blank_split_nil = refl

-- a word before the words that follow it, where it is not empty
abbrev word_before : List ℕ → List (List ℕ) → List (List ℕ)
word_before word words = cond (is_filled word) (word ∷ words) words

blank_split-cut : (xs : List ℕ) → blank_split xs ≡ word_before (before_first is_blank xs) (blank_split (after_first is_blank xs))
unfolding blank_split
blank_split-cut xs =
    elim (parts_of_cut is_blank xs) [
      | inl w ↦ ap (filter is_filled) w.parts
      | inr w ↦ ap (filter is_filled) w.parts ∙ ap (λ ys. word_before (before_first is_blank xs) (filter is_filled (slice_split is_blank ys))) (sym w.rest)
    ]

word_before-empty : (word : List ℕ) (words : List (List ℕ)) → length word ≡ 0 → word_before word words ≡ words
word_before-empty [] words e = refl
word_before-empty (b ∷ bs) words e = absurd (omega arith)

word_before-filled : (word : List ℕ) (words : List (List ℕ)) → 0 < length word → word_before word words ≡ word ∷ words
word_before-filled [] words h = absurd (omega arith)
word_before-filled (b ∷ bs) words h = refl

-- an empty part before a blank is passed over
pub blank_split_empty : (xs : List ℕ) → length (before_first is_blank xs) ≡ 0 → blank_split xs ≡ blank_split (after_first is_blank xs)
blank_split_empty xs e = blank_split-cut xs ∙ word_before-empty _ _ e

-- the part before a blank is the first word
pub blank_split_word : (xs : List ℕ) → 0 < length (before_first is_blank xs) → blank_split xs ≡ before_first is_blank xs ∷ blank_split (after_first is_blank xs)
blank_split_word xs h = blank_split-cut xs ∙ word_before-filled _ _ h

-- a step to the next word
pub ruleset next_word = (blank_split_nil, blank_split_empty, blank_split_word, after_first_shorter)

pub not_text_utf8 : (word : List ℕ) → (IsUtf8 word → ⊥) → is_utf8 word ≡ false
not_text_utf8 word h = refuted (is_utf8 word) (λ e. h (IsUtf8-from_is_utf8 word e))
  where
    refuted : (b : Bool) → (b ≡ true → ⊥) → b ≡ false
    refuted true r = absurd (r refl)
    refuted false r = refl

pub ruleset texts = (is_text_utf8, not_text_utf8)
