use Rattle.std.proofs.Common.{◌≡◌, ◌*◌, ◌<◌, length, true, false, sym, ap, ◌∙◌, arith, get_or}
use Rattle.std.proofs.lemmas.Bool.Decides.{nat_tests}
use Rattle.std.proofs.lemmas.List.Folds.{list_all_more}
use Rattle.std.proofs.lemmas.List.{take_all}
use Rattle.std.specs.Char.{is_digit, digit_value}
use Rattle.std.specs.List.{list_all}
use Rattle.std.specs.Str.Parse.{digits_value}
use Rattle.fab_words.proofs.NumberLemmas.{digit_step, numeral_of_not_digit, numeral_of_overflow, numeral_of_digits}
use Rattle.fab_words.proofs.words.numeral.Goals as goal

pub returns-in_err-digit : goal.returns-in_err-digit
returns-in_err-digit c =
    let loop = c.loop-byte in
    let other : is_digit (get_or c.args.digits.now loop.byte-index 0) c.args.radix ≡ false = grind (arith, nat_tests, c.in_err-digit.ensures.value, ap digit_value c.from.ensures) in
    let none = numeral_of_not_digit c.args.radix c.args.most c.args.digits.now loop.byte-index (omega arith) other in
    cc

pub returns-in_err-checked_mul : goal.returns-in_err-checked_mul
returns-in_err-checked_mul c =
    let loop = c.loop-byte in
    let product : loop.value * c.args.radix ≡ loop.value * c.from-in-loop-byte.result = ap (λ r. loop.value * r) (sym c.from-in-loop-byte.ensures) in
    let none = numeral_of_overflow c.args.radix c.args.most c.args.digits.now loop.byte-index loop.value (omega arith) (omega arith) loop.invariant.value
    (omega (arith, c.in_err-checked_mul.ensures)) in
    cc

pub returns-in_err-value : goal.returns-in_err-value
returns-in_err-value c =
    let loop = c.loop-byte in
    let product : loop.value * c.args.radix ≡ loop.value * c.from-in-loop-byte.result = ap (λ r. loop.value * r) (sym c.from-in-loop-byte.ensures) in
    let digit : digit_value (get_or c.args.digits.now loop.byte-index 0) ≡ c.in_ok-digit.digit = ap digit_value (sym c.from.ensures) ∙ sym c.in_ok-digit.ensures.value.1 in
    let none = numeral_of_overflow c.args.radix c.args.most c.args.digits.now loop.byte-index loop.value (omega arith) (omega arith) loop.invariant.value
    (omega (arith, c.in_err-value.ensures, c.in_ok-checked_mul.ensures)) in
    cc

pub loop-byte-preserved : goal.loop-byte-preserved
loop-byte-preserved c =
    let loop = c.loop-byte in
    let word = c.args.digits.now in
    let product : loop.value * c.args.radix ≡ loop.value * c.from-in-loop-byte.result = ap (λ r. loop.value * r) (sym c.from-in-loop-byte.ensures) in
    let step = digit_step c.args.radix word loop.byte-index loop.value (omega arith) loop.invariant.value in
    let all = list_all_more (λ digit. is_digit digit c.args.radix) word loop.byte-index 0 (omega arith) in
    let digit : digit_value (get_or word loop.byte-index 0) ≡ c.in_ok-digit.digit = ap digit_value (sym c.from.ensures) ∙ sym c.in_ok-digit.ensures.value.1 in
    record {
      digits = grind (arith, nat_tests, all, loop.invariant.digits, c.in_ok-digit.ensures.value);
      value = omega (arith, c.in_ok-value.ensures, c.in_ok-checked_mul.ensures);
      fits = omega (arith, c.in_ok-value.ensures);
    }

pub returns : goal.returns
returns c =
    let loop = c.loop-byte in
    let word = c.args.digits.now in
    let whole = take_all loop.byte-index word (omega arith) in
    let filled : 0 < length word = grind (arith, nat_tests, c.if-is_empty.ensures) in
    let digits : list_all (λ digit. is_digit digit c.args.radix) word ≡ true = ap (list_all (λ digit. is_digit digit c.args.radix)) (sym whole) ∙ loop.invariant.digits in
    let value : loop.value ≡ digits_value c.args.radix word = loop.invariant.value ∙ ap (digits_value c.args.radix) whole in
    let read = numeral_of_digits c.args.radix c.args.most word filled (omega arith) digits (omega (arith, loop.invariant.fits)) in
    cc
