-- What is wrong with the words of a line.
--     first_misread f g      the one that goes first: of the words, of the numbers, of the limits
--     map_ok f r           what f makes of what is said
--     a & b                what both say, or the misread that goes first
use Rattle.std.specs.Prelude.{Result, Ok, Err}
use Rattle.fab_words.specs.declared.misread.Misread.{Misread}
use Rattle.fab_words.specs.declared.misread.Misread.TheVariants.{Words, Number, Limit}

abbrev pub first_misread : Misread → Misread → Misread
first_misread Words g = Words
first_misread Number Words = Words
first_misread Number Number = Number
first_misread Number Limit = Number
first_misread Limit g = g

abbrev pub map_ok : {A B : Type 0} → (A → B) → Result A Misread → Result B Misread
map_ok f (Ok a) = Ok (f a)
map_ok f (Err misread) = Err misread

infixl 12 ◌&◌
abbrev pub ◌&◌ : {A B : Type 0} → Result A Misread → Result B Misread → Result (A × B) Misread
Ok a & Ok b = Ok (a, b)
Ok a & Err g = Err g
Err f & Ok b = Err f
Err f & Err g = Err (first_misread f g)
