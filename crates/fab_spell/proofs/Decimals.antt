-- A number that is written in decimal reads again.
use Rattle.std.proofs.Common.{◌≡◌, ℕ, ◌^◌, ◌<◌, ◌≤◌, ◌⊎◌, inl, inr, Bool, true, false, cond, ◌&&◌, leb, eqb, List, [], ◌∷◌, length, take, drop, codes, bytes_eq, decimal, Option, Some, None, Result, Ok, Err, ok_or, ap, ◌∙◌, refl, arith, lt-ltb, le-leb, leb-true, ne_eqb}
use Rattle.std.proofs.lemmas.Bool.{and_from}
use Rattle.std.specs.Char.{is_digit, digit_value}
use Rattle.std.specs.List.{list_all}
use Rattle.std.specs.Str.Parse.{digits_value, AllDigits}
use Rattle.std.proofs.lemmas.Bool.Decides.{nat_tests}
use Rattle.std.proofs.lemmas.Fmt.{decimal_is_IsNumeral, length-decimal-le}
use Rattle.std.proofs.lemmas.Str.Parse.{digit_from_value}
use Rattle.fab_base.proofs.Bools.{and_false as and_none}
use Rattle.fab_words.specs.declared.misread.Misread.{Misread}
use Rattle.fab_words.specs.declared.misread.Misread.TheVariants.{Number, Limit}
use Rattle.fab_words.specs.Words.{only_if, is_numeral, numeral_of, begins_with, number_of, read_number, within, read_up_to, read_index}
use Rattle.fab_words.proofs.NumberLemmas.{numeral_of_digits}

-- digits

are_digits : (ds : List ℕ) → AllDigits 10 ds → list_all (λ digit. is_digit digit 10) ds ≡ true
are_digits [] d = refl
are_digits (c ∷ cs) d = and_from _ _ (lt-ltb _ _ d.0) (are_digits cs d.1)

-- no digit
abbrev pub NoDigit : ℕ → Type 0
NoDigit c = (c < 48) ⊎ (57 < c)

other_digit : (c e : ℕ) → NoDigit c → digit_value e < 10 → eqb e c ≡ false
other_digit c e other d = let range = digit_from_value e d in ne_eqb e c (λ s. other_range range.0 range.1 s other)
  where
    other_range : 48 ≤ e → e ≤ 57 → e ≡ c → NoDigit c → ⊥
    other_range low high s (inl below) = omega arith
    other_range low high s (inr above) = omega arith

-- digits do not begin with what is no digit
digits_begin : (c : ℕ) (cs ds : List ℕ) → NoDigit c → AllDigits 10 ds → begins_with (c ∷ cs) ds ≡ false
digits_begin c cs [] other d = refl
digits_begin c cs (e ∷ ds) other d = ap (λ b. b && bytes_eq (take (length cs) ds) cs) (other_digit c e other d.0)

digits_begin_second : (a c : ℕ) (cs ds : List ℕ) → NoDigit c → AllDigits 10 ds → begins_with (a ∷ c ∷ cs) ds ≡ false
digits_begin_second a c cs [] other d = refl
digits_begin_second a c cs (e ∷ []) other d = and_none (eqb e a)
digits_begin_second a c cs (e ∷ f ∷ ds) other d =
    ap (λ b. eqb e a && (b && bytes_eq (take (length cs) ds) cs)) (other_digit c f other d.1.0) ∙ and_none (eqb e a)

-- the decimal of a number

pub decimal_digits : (n : ℕ) → n < 2 ^ 64 → AllDigits 10 (decimal n)
decimal_digits n h = (decimal_is_IsNumeral n h).0.1

pub numeral_again : (n : ℕ) → n < 2 ^ 64 → numeral_of 10 20 (decimal n) ≡ Some n
numeral_again n h =
    let value = decimal_is_IsNumeral n h in
    numeral_of_digits 10 20 (decimal n) value.0.0 (length-decimal-le 20 n (omega arith) (omega arith) h) (are_digits (decimal n) value.0.1) (omega (arith, value.1))
    ∙ ap Some value.1

-- it begins with no sign
pub decimal_begins : (c : ℕ) (cs : List ℕ) (n : ℕ) → NoDigit c → n < 2 ^ 64 → begins_with (c ∷ cs) (decimal n) ≡ false
decimal_begins c cs n other h = digits_begin c cs (decimal n) other (decimal_digits n h)

pub number_again : (n : ℕ) → n < 2 ^ 64 → number_of (decimal n) ≡ Some n
unfolding number_of
number_again n h =
    let plain = digits_begin_second 48 120 [] (decimal n) (inr (omega arith)) (decimal_digits n h) in
    ap (λ b. cond b (numeral_of 16 16 (drop 2 (decimal n))) (numeral_of 10 20 (decimal n))) plain ∙ numeral_again n h

pub read_number_decimal : (n : ℕ) → n < 2 ^ 64 → read_number (decimal n) ≡ Ok n
unfolding read_number
read_number_decimal n h = ap (λ o. ok_or o Number) (number_again n h)

pub read_up_to_decimal : (most n : ℕ) → n ≤ most → n < 2 ^ 64 → read_up_to most (decimal n) ≡ Ok n
unfolding read_up_to
read_up_to_decimal most n le h = ap (within most) (read_number_decimal n h) ∙ ap (λ b. cond b (Ok n) (Err Limit)) (le-leb n most le)

-- what was read is small

picked : (b : Bool) (m n : ℕ) → only_if b m ≡ Some n → (b ≡ true) × (m ≡ n)
picked true m n e = (refl, cc)
picked false m n e = cc

pub numeral_small : (radix most : ℕ) (word : List ℕ) (n : ℕ) → numeral_of radix most word ≡ Some n → n < 2 ^ 64
unfolding numeral_of
numeral_small radix most word n e =
    let both = picked (is_numeral radix most word) (digits_value radix word) n e in
    let test : is_numeral radix most word ≡ true = both.0 in
    let is : digits_value radix word ≡ n = both.1 in
    let small : digits_value radix word < 2 ^ 64 = grind (arith, nat_tests) in
    omega arith

pub number_small : (word : List ℕ) (n : ℕ) → number_of word ≡ Some n → n < 2 ^ 64
unfolding number_of
number_small word n e = by (begins_with (codes "0x") word) e
  where
    by : (b : Bool) → cond b (numeral_of 16 16 (drop 2 word)) (numeral_of 10 20 word) ≡ Some n → n < 2 ^ 64
    by true f = numeral_small 16 16 (drop 2 word) n f
    by false f = numeral_small 10 20 word n f

said : (o : Option ℕ) (fault : Misread) (n : ℕ) → ok_or o fault ≡ Ok n → o ≡ Some n
said (Some m) fault n e = cc
said None fault n e = cc

pub read_number_small : (word : List ℕ) (n : ℕ) → read_number word ≡ Ok n → n < 2 ^ 64
unfolding read_number
read_number_small word n e = number_small word n (said (number_of word) Number n e)

under : (most : ℕ) (r : Result ℕ Misread) (n : ℕ) → within most r ≡ Ok n → (r ≡ Ok n) × (n ≤ most)
under most (Ok m) n e = let both = by (leb m most) refl e in (ap Ok both.0, both.1)
  where
    by : (b : Bool) → leb m most ≡ b → cond b (Ok m) (Err Limit) ≡ Ok n → (m ≡ n) × (n ≤ most)
    by true test f = let same : m ≡ n = cc in (same, omega (arith, leb-true m most test))
    by false test f = cc
under most (Err fault) n e = cc

pub read_up_to_small : (most : ℕ) (word : List ℕ) (n : ℕ) → read_up_to most word ≡ Ok n → (n ≤ most) × (n < 2 ^ 64)
unfolding read_up_to
read_up_to_small most word n e =
    let both = under most (read_number word) n e in
    (both.1, read_number_small word n both.0)

-- what was read of a word reads of the decimal

pub read_number_again : (word : List ℕ) (n : ℕ) → read_number word ≡ Ok n → read_number (decimal n) ≡ Ok n
read_number_again word n e = read_number_decimal n (read_number_small word n e)

pub read_up_to_again : (most : ℕ) (word : List ℕ) (n : ℕ) → read_up_to most word ≡ Ok n → read_up_to most (decimal n) ≡ Ok n
read_up_to_again most word n e = let small = read_up_to_small most word n e in read_up_to_decimal most n small.0 small.1

pub read_index_again : (word : List ℕ) (n : ℕ) → read_index word ≡ Ok n → read_index (decimal n) ≡ Ok n
unfolding read_index
read_index_again word n e = read_up_to_again 4294967295 word n e
