use Rattle.std.proofs.Common.{arith}
use Rattle.std.proofs.lemmas.Result.{on_ok_weaker as on_ok}
use Rattle.fab_host.proofs.Writing.{one_digit, more_digits}
use Rattle.fab_host.proofs.ending.+write_number.Goals as goal

pub returns-then-number-lt10-clause-ok : goal.returns-then-number-lt10-clause-ok
returns-then-number-lt10-clause-ok g t c =
    on_ok c.write_all.result (one_digit _ _ c.args.number (omega (arith, c.if-number-lt10.true))) c.write_all.ensures.ok

pub returns-clause-ok : goal.returns-clause-ok
returns-clause-ok g t c =
    on_ok c.write_all-2.result (more_digits _ _ _ c.args.number (omega (arith, c.if-number-lt10.false)) (omega (arith, c.ranges.number.fits)) c.in_ok-write_number.ensures.ok) c.write_all-2.ensures.ok
