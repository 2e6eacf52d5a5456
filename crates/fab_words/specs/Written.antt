-- Words that a line can be written with.
--     is_word word      one or more printable characters, no blank among them
--     is_row words      a line that is not empty: words, the first of which begins with no `#`
use Rattle.std.specs.Prelude.{ℕ, Bool, false, not, ◌&&◌, nat_lt, nat_le, List, [], ◌∷◌}
use Rattle.std.specs.List.{list_all}
use Rattle.fab_words.specs.Rows.{is_comment, is_filled}

abbrev pub is_word : List ℕ → Bool
is_word word = is_filled word && list_all (λ byte. nat_lt 32 byte && nat_le byte 126) word

abbrev pub is_row : List (List ℕ) → Bool
is_row [] = false
is_row (word ∷ words) = not (is_comment (word ∷ words)) && list_all is_word (word ∷ words)
