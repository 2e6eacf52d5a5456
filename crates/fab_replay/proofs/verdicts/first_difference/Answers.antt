use Rattle.std.proofs.Common.{arith, length}
use Rattle.fab_replay.proofs.Judging.{differ_at, all_alike, shorter, shortest}
use Rattle.fab_replay.proofs.verdicts.first_difference.Goals as goal

pub returns-then-a-at : goal.returns-then-a-at
returns-then-a-at c =
    differ_at c.args.a.now c.args.b.now c.loop-at.at (omega (arith, c.loop-at-test.true, c.min-at-end.ensures)) (omega (arith, c.loop-at-test.true, c.min-at-end.ensures)) c.if-a-at.true c.loop-at.invariant

pub returns-then-a-b : goal.returns-then-a-b
returns-then-a-b c =
    all_alike c.args.a.now c.args.b.now c.loop-at.at (omega (arith, c.loop-at-test.false, c.min-at-end.ensures, c.if-a-b.true)) c.if-a-b.true (omega (arith, c.loop-at.auto.at-end, c.min-at-end.ensures)) c.loop-at.invariant

pub returns : goal.returns
returns c =
    let a = c.args.a.now in
    let b = c.args.b.now in
    let h = shorter a b c.loop-at.at (shortest (length a) (length b) c.loop-at.at (omega (arith, c.loop-at-test.false, c.min-at-end.ensures))) c.if-a-b.false c.loop-at.invariant in
    (h.0, omega (arith, h.1, c.min.ensures, c.min-at-end.ensures, c.loop-at-test.false, c.loop-at.auto.at-end))
