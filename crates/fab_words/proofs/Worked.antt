-- Words whose meaning is worked out by the definitions alone.
use Rattle.std.proofs.Common.{◌≡◌, Some, None, refl}
use Rattle.std.specs.Prelude.{codes}
use Rattle.fab_words.specs.declared.misread.Misread.TheVariants.{Words, Number}
use Rattle.fab_words.specs.Misreads.{first_misread}
use Rattle.fab_words.specs.Words.{numeral_of, number_of}

-- the most hexadecimal digits, and one more
most_digits : number_of (codes "0xffffffffffffffff") ≡ Some 18446744073709551615
unfolding number_of numeral_of
most_digits = refl

one_more : number_of (codes "0x00000000000000001") ≡ None
unfolding number_of numeral_of
one_more = refl

-- a word of wrong form is told before one that is no number
words_first : first_misread Number Words ≡ Words
words_first = refl
