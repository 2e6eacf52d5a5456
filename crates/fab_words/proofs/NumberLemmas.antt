-- A word that is read as a number, digit by digit.
use Rattle.std.proofs.Common.{◌≡◌, ℕ, ◌+◌, ◌*◌, ◌^◌, ◌<◌, ◌≤◌, true, false, List, ◌++◌, ◌⊎◌, length, take, drop, get_or, map, Some, None, sym, ap, subst, ◌∙◌, arith}
use Rattle.std.specs.Char.{digit_value, is_digit}
use Rattle.std.specs.List.{list_all}
use Rattle.std.specs.Str.Parse.{digits_value}
use Rattle.std.proofs.lemmas.Bool.Decides.{nat_tests}
use Rattle.std.specs.Int.Digits.{number_from_digits, number_from_digits_after}
use Rattle.std.proofs.lemmas.List.{map-append, take-append-drop}
use Rattle.std.proofs.lemmas.Int.Digits.{digits_value_is, digits_value_more, number_after_append, number_after_ge}
use Rattle.std.proofs.lemmas.List.Folds.{list_all_at}
use Rattle.fab_words.specs.Words.{is_numeral, only_if, numeral_of}

not_numeral : (radix most : ℕ) (word : List ℕ) → is_numeral radix most word ≡ false → numeral_of radix most word ≡ None
unfolding numeral_of
not_numeral radix most word e = ap (λ b. only_if b (digits_value radix word)) e

pub numeral_of_length : (radix most : ℕ) (word : List ℕ) → (length word ≡ 0) ⊎ (most < length word) → numeral_of radix most word ≡ None
numeral_of_length radix most word h = not_numeral radix most word (grind (arith, nat_tests))

pub numeral_of_not_digit : (radix most : ℕ) (word : List ℕ) (i : ℕ) → i < length word → is_digit (get_or word i 0) radix ≡ false → numeral_of radix most word ≡ None
numeral_of_not_digit radix most word i h e =
    let other = list_all_at (λ digit. is_digit digit radix) word i 0 h e in
    not_numeral radix most word (grind (arith, nat_tests, other))

digits_value-front : (radix : ℕ) (xs ys : List ℕ) → 0 < radix → digits_value radix xs ≤ digits_value radix (xs ++ ys)
digits_value-front radix xs ys h =
    let front = digits_value_is radix xs in
    let all = digits_value_is radix (xs ++ ys) in
    let split : number_from_digits radix (map digit_value (xs ++ ys)) ≡ number_from_digits_after radix (number_from_digits radix (map digit_value xs)) (map digit_value ys) =
    ap (number_from_digits radix) (map-append digit_value xs ys) ∙ number_after_append radix 0 (map digit_value xs) (map digit_value ys) in
    let more = number_after_ge radix (number_from_digits radix (map digit_value xs)) (map digit_value ys) h in
    omega arith

-- the digits so far say no more than all
digits_value-take : (radix : ℕ) (word : List ℕ) (i : ℕ) → 0 < radix → digits_value radix (take i word) ≤ digits_value radix word
digits_value-take radix word i h =
    let P : List ℕ → Type 0 = λ w. digits_value radix (take i word) ≤ digits_value radix w in
    subst P (take-append-drop i word) (digits_value-front radix (take i word) (drop i word) h)

numeral_of_too_big : (radix most : ℕ) (word : List ℕ) (i : ℕ) → 0 < radix → 2 ^ 64 ≤ digits_value radix (take i word) → numeral_of radix most word ≡ None
numeral_of_too_big radix most word i positive h =
    let front = digits_value-take radix word i positive in
    not_numeral radix most word (grind (arith, nat_tests))

pub numeral_of_digits : (radix most : ℕ) (word : List ℕ) → 0 < length word → length word ≤ most → list_all (λ digit. is_digit digit radix) word ≡ true → digits_value radix word < 2 ^ 64 → numeral_of radix most word ≡ Some (digits_value radix word)
unfolding numeral_of
numeral_of_digits radix most word filled short digits fits = grind (arith, nat_tests)

-- one digit more
pub digit_step : (radix : ℕ) (word : List ℕ) (i value : ℕ) → i < length word → value ≡ digits_value radix (take i word) → value * radix + digit_value (get_or word i 0) ≡ digits_value radix (take (i + 1) word)
digit_step radix word i value h e =
    let more = digits_value_more radix word i h in
    ap (λ v. v * radix + digit_value (get_or word i 0)) e ∙ sym more

-- a value that passes 2 ^ 64 with the next digit
pub numeral_of_overflow : (radix most : ℕ) (word : List ℕ) (i value : ℕ) → 0 < radix → i < length word → value ≡ digits_value radix (take i word) → 2 ^ 64 ≤ value * radix + digit_value (get_or word i 0) → numeral_of radix most word ≡ None
numeral_of_overflow radix most word i value positive h e big =
    let step = digit_step radix word i value h e in
    numeral_of_too_big radix most word (i + 1) positive (omega arith)

-- why digits say no number
pub ruleset no_number = (numeral_of_length, numeral_of_not_digit)
