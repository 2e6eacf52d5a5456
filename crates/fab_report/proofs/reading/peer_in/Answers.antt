use Rattle.std.proofs.Common.{arith}
use Rattle.fab_report.proofs.Numerals.{not_digit, too_great}
use Rattle.fab_report.proofs.reading.peer_in.Goals as goal
use Rattle.fab_report.proofs.reading.peer_in.Goals.{then-not-is_digit-via-then-not-is_digit, then-not-is_digit-via-else-not-is_digit+then-number-from}

pub returns-then-not-is_digit : goal.returns-then-not-is_digit
returns-then-not-is_digit c =
    elim c.then-not-is_digit.branch [
      | then-not-is_digit-via-then-not-is_digit w ↦ let w' = w.if-not-is_digit in not_digit c.args.peers c.args.digits.now c.loop-byte.byte-index c.loop-byte-test.true (cc)
      | then-not-is_digit-via-else-not-is_digit+then-number-from w ↦ too_great c.args.peers c.args.digits.now c.loop-byte.byte-index (omega (arith, c.loop-byte.invariant.value, w.from.ensures))
    ]
