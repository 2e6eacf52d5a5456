-- The text of words.
--     after_blanks words   the words, each after a blank
--     left_text kept       the lines of the entries that no wait took
use Rattle.std.specs.Prelude.{ℕ, List, [], ◌∷◌, ◌++◌, map, codes}
use Rattle.fab_base.specs.declared.entries.Kept.{Kept}
use Rattle.fab_model.specs.Words.{Word, text_of}
use Rattle.fab_model.specs.Report.{kept_words}

abbrev pub after_blanks : List Word → List ℕ
after_blanks [] = []
after_blanks (word ∷ words) = 32 ∷ word ++ after_blanks words

abbrev pub left_text : List Kept → List ℕ
left_text kept = text_of (map (λ k. codes "left" ∷ kept_words k) kept)
