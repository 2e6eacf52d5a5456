-- What one word says.
--     number_of word      1 to 20 decimal digits, or `0x` and 1 to 16 hexadecimal digits, below 2 ^ 64
--     read_number word, read_up_to n word      a number, or a number of at most n
--     read_index word, read_source word      what stands in these places
use Rattle.std.specs.Prelude.{ℕ, ◌^◌, Bool, ◌&&◌, nat_lt, nat_le, if◌then◌else◌, List, [], ◌∷◌, length, drop, take, codes, bytes_eq, Option, Some, None, option_and_then, Result, Ok, Err, ok_or}
use Rattle.std.specs.List.{list_all}
use Rattle.fab_words.specs.declared.misread.Misread.{Misread}
use Rattle.fab_words.specs.Misreads.{map_ok}
use Rattle.fab_words.specs.declared.misread.Misread.TheVariants.{Words, Number, Limit}
use Rattle.std.specs.Char.{is_digit}
use Rattle.std.specs.Str.{is_utf8}
use Rattle.std.specs.Str.Parse.{digits_value}

-- what stands beside the first test that holds
abbrev pub first_of : {A : Type 0} → List (Bool × A) → Option A
first_of [] = None
first_of (x ∷ xs) = if x.0 then Some x.1 else first_of xs

infixl 10 ◌>>=◌
abbrev pub ◌>>=◌ : {A B : Type 0} → Option A → (A → Option B) → Option B
o >>= f = option_and_then f o

-- the value where the test holds of it
abbrev pub only_if : {A : Type 0} → Bool → A → Option A
only_if test value = if test then Some value else None

-- digits of this radix, one or more and at most so many, that say less than 2 ^ 64
abbrev pub is_numeral : ℕ → ℕ → List ℕ → Bool
is_numeral radix most digits =
    nat_le 1 (length digits) && nat_le (length digits) most && list_all (λ digit. is_digit digit radix) digits && nat_lt (digits_value radix digits) (2 ^ 64)

unfoldable pub numeral_of : ℕ → ℕ → List ℕ → Option ℕ
numeral_of radix most digits = only_if (is_numeral radix most digits) (digits_value radix digits)

-- the word begins with this text
abbrev pub begins_with : List ℕ → List ℕ → Bool
begins_with front word = bytes_eq (take (length front) word) front

unfoldable pub number_of : List ℕ → Option ℕ
number_of word = if begins_with (codes "0x") word then numeral_of 16 16 (drop 2 word) else numeral_of 10 20 word

-- a number in a number's place, at most so much
unfoldable pub read_number : List ℕ → Result ℕ Misread
read_number word = ok_or (number_of word) Number

abbrev pub within : ℕ → Result ℕ Misread → Result ℕ Misread
within most (Ok n) = if nat_le n most then Ok n else Err Limit
within most (Err misread) = Err misread

unfoldable pub read_up_to : ℕ → List ℕ → Result ℕ Misread
read_up_to most word = within most (read_number word)

-- an index is below 2 ^ 32
unfoldable pub read_index : List ℕ → Result ℕ Misread
read_index word = read_up_to 4294967295 word

-- `*`, or an index
unfoldable pub read_source : List ℕ → Result (Option ℕ) Misread
read_source word = if bytes_eq word (codes "*") then Ok None else map_ok Some (read_index word)

-- a text, as it is written
unfoldable pub read_text : List ℕ → Result (List ℕ) Misread
read_text word = if is_utf8 word then Ok word else Err Words
