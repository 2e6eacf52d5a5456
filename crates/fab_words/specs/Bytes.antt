-- How a line names bytes.
--     read_bytes most word      `text:`, `hex:`, `zero:N` or `file:ID:AT:LEN`, at most so many
--     bytes_size bytes          how many they are
use Rattle.std.specs.Prelude.{ℕ, Bool, ◌==◌, nat_le, if◌then◌else◌, List, [], ◌∷◌, length, drop, codes, Result, Ok, Err}
use Rattle.std.specs.List.{slice_split}
use Rattle.fab_base.specs.declared.script.BytesWord.{BytesWord}
use Rattle.fab_base.specs.declared.script.BytesWord.TheVariants.{Text, Hex, Zero, File}
use Rattle.fab_words.specs.declared.misread.Misread.{Misread}
use Rattle.fab_words.specs.declared.misread.Misread.TheVariants.{Words, Limit}
use Rattle.fab_words.specs.Misreads.{map_ok, ◌&◌}
use Rattle.fab_words.specs.Words.{begins_with, read_number, read_up_to}
use Rattle.hex.specs.Hex.{decode_of}
use Rattle.hex.specs.declared.error.FromHexError.{FromHexError}

abbrev pub few_bytes : ℕ → List ℕ → BytesWord → Result BytesWord Misread
few_bytes most bytes word = if nat_le (length bytes) most then Ok word else Err Limit

-- two hexadecimal digits a byte
abbrev pub of_hex : ℕ → Result (List ℕ) FromHexError → Result BytesWord Misread
of_hex most (Ok bytes) = few_bytes most bytes (Hex bytes)
of_hex most (Err e) = Err Words

abbrev pub a_file_range : (ℕ × ℕ) × ℕ → BytesWord
a_file_range ((id, at), len) = File id at len

-- `ID:AT:LEN`
abbrev pub file_range : ℕ → List (List ℕ) → Result BytesWord Misread
file_range most (id ∷ at ∷ len ∷ []) = map_ok a_file_range (read_number id & read_number at & read_up_to most len)
file_range most _ = Err Words

abbrev pub is_colon : ℕ → Bool
is_colon byte = byte == 58

unfoldable pub read_bytes : ℕ → List ℕ → Result BytesWord Misread
read_bytes most word =
    if begins_with (codes "text:") word then few_bytes most (drop 5 word) (Text (drop 5 word))
    else if begins_with (codes "hex:") word then of_hex most (decode_of (drop 4 word))
    else if begins_with (codes "zero:") word then map_ok Zero (read_up_to most (drop 5 word))
    else if begins_with (codes "file:") word then file_range most (slice_split is_colon (drop 5 word))
    else Err Words

abbrev pub bytes_size : BytesWord → ℕ
bytes_size (Text bytes) = length bytes
bytes_size (Hex bytes) = length bytes
bytes_size (Zero len) = len
bytes_size (File id at len) = len
