-- The lines of a file, and the words of a line.
--     lines_of bytes      what the line feeds end; the last line may lack its line feed
--     words_of line       what stands between spaces and tabs; a line that begins with `#` has none
--     is_text line        every byte is a printable character, a space or a tab
use Rattle.std.specs.Prelude.{ℕ, ◌-◌, Bool, true, false, ◌&&◌, ◌||◌, nat_le, nat_lt, ◌==◌, if◌then◌else◌, List, [], ◌∷◌, length, filter, take, drop, codes, bytes_eq, Option, Some, None}
use Rattle.std.specs.List.{slice_split, before_first, list_all}

abbrev pub is_line_feed : ℕ → Bool
is_line_feed byte = byte == 10

-- a space or a tab
abbrev pub is_blank : ℕ → Bool
is_blank byte = byte == 32 || byte == 9

abbrev pub is_filled : List ℕ → Bool
is_filled [] = false
is_filled (_ ∷ _) = true

-- a carriage return before the line feed is no part of the line
abbrev pub ends_with_return : List ℕ → Bool
ends_with_return line = bytes_eq (drop (length line - 1) line) (13 ∷ [])

abbrev pub without_return : List ℕ → List ℕ
without_return line = if ends_with_return line then take (length line - 1) line else line

-- the lines that the line feeds end, and what follows the last one, where that is not empty
abbrev pub lines_of_parts : List (List ℕ) → List (List ℕ)
lines_of_parts [] = []
lines_of_parts (part ∷ []) = if is_filled part then part ∷ [] else []
lines_of_parts (part ∷ next ∷ parts) = without_return part ∷ lines_of_parts (next ∷ parts)

unfoldable pub lines_of : List ℕ → List (List ℕ)
lines_of bytes = lines_of_parts (slice_split is_line_feed bytes)

-- the first line of a text that is not empty: without its carriage return where a line feed ends it
abbrev pub first_line : List ℕ → List ℕ
first_line bytes = if nat_lt (length (before_first is_line_feed bytes)) (length bytes) then without_return (before_first is_line_feed bytes) else before_first is_line_feed bytes

-- what stands between blanks
unfoldable pub blank_split : List ℕ → List (List ℕ)
blank_split line = filter is_filled (slice_split is_blank line)

abbrev pub is_comment : List (List ℕ) → Bool
is_comment [] = false
is_comment (word ∷ words) = bytes_eq (take 1 word) (codes "#")

abbrev pub words_if : List (List ℕ) → List (List ℕ)
words_if words = if is_comment words then [] else words

abbrev pub words_of : List ℕ → List (List ℕ)
words_of line = words_if (blank_split line)

abbrev pub is_text : List ℕ → Bool
is_text line = list_all (λ byte. byte == 9 || (nat_le 32 byte && nat_le byte 126)) line

-- the parts after a byte, where there is one
abbrev pub parts_left : ℕ → Option (List ℕ) → List (List ℕ)
parts_left byte None = []
parts_left byte (Some text) = slice_split (λ b. b == byte) text
