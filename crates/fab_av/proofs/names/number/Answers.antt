use Rattle.std.proofs.Common.{◌≡◌, sym, ap, ◌∙◌, below_more, arith}
use Rattle.std.proofs.lemmas.Bool.{iff_false}
use Rattle.std.proofs.lemmas.List.{take_all}
use Rattle.std.specs.Str.Parse.{digits_value}
use Rattle.fab_av.proofs.Naming.{AreDigits, no_decimal_led, no_decimal_digit, no_decimal_next, digit_step, decimal_of}
use Rattle.fab_av.proofs.names.number.Goals as goal

pub returns-then-not-is_led : goal.returns-then-not-is_led
returns-then-not-is_led c = no_decimal_led c.args.digits.now (iff_false c.is_led.ensures c.if-not-is_led.true)

pub returns-then-not-is_ascii_digit : goal.returns-then-not-is_ascii_digit
returns-then-not-is_ascii_digit c = no_decimal_digit c.args.digits.now c.loop-byte.byte-index (omega arith) (sym c.if-not-is_ascii_digit.ensures.value)

pub returns-in_err-checked_mul : goal.returns-in_err-checked_mul
returns-in_err-checked_mul c =
    let loop = c.loop-byte in
    rw c.from_residual.ensures (no_decimal_next c.args.digits.now loop.byte-index loop.value (omega arith) loop.invariant.value c.if-not-is_ascii_digit.ensures.cases (omega (arith, c.in_err-checked_mul.ensures)))

pub returns-in_err-value : goal.returns-in_err-value
returns-in_err-value c =
    let loop = c.loop-byte in
    rw c.from_residual-in_err-value.ensures (no_decimal_next c.args.digits.now loop.byte-index loop.value (omega arith) loop.invariant.value c.if-not-is_ascii_digit.ensures.cases (omega (arith, c.in_err-value.ensures, c.in_ok-checked_mul.ensures, c.from.ensures)))

pub loop-byte-preserved : goal.loop-byte-preserved
loop-byte-preserved c =
    let loop = c.loop-byte in
    let step = digit_step c.args.digits.now loop.byte-index loop.value (omega arith) loop.invariant.value c.if-not-is_ascii_digit.ensures.cases in
    record {
      digits = below_more _ _ loop.invariant.digits c.if-not-is_ascii_digit.ensures.cases;
      value = omega (arith, c.in_ok-value.ensures, c.in_ok-checked_mul.ensures, c.from.ensures);
      fits = omega (arith, c.in_ok-value.ensures);
    }

pub returns : goal.returns
returns c =
    let loop = c.loop-byte in
    let ds = c.args.digits.now in
    let led = c.is_led.ensures.0 c.if-not-is_led.false in
    let whole = take_all loop.byte-index ds (omega arith) in
    let digits : AreDigits ds = λ i h. loop.invariant.digits i (omega arith) in
    let value : loop.value ≡ digits_value 10 ds = loop.invariant.value ∙ ap (digits_value 10) whole in
    rw value (decimal_of ds led.0 led.1 digits (omega (arith, loop.invariant.fits)))
