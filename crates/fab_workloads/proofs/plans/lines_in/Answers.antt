use Rattle.std.proofs.Common.{ap, arith, sym, ◌≡◌, ◌∙◌}
use Rattle.fab_workloads.proofs.Appended.{below_more, lines_are, lines_below}
use Rattle.fab_workloads.proofs.plans.lines_in.Goals as goal

pub loop-s-preserved : goal.loop-s-preserved
loop-s-preserved c = let more = c.lines_with-lines in (
  below_more c.args.coll c.args.r c.loop-s.s c.loop-s.lines more.result c.loop-s.invariant.0 more.ensures.value,
  omega (arith, c.loop-s.invariant.1, more.ensures.few),
)

pub returns-clause-value : goal.returns-clause-value
returns-clause-value c i round is =
    let end : c.args.peers ≡ c.loop-s.s = omega (arith, c.loop-s-test.false, c.loop-s.auto.s-end) in
    lines_are c.args.peers c.args.r c.args.coll i round is ∙ ap (lines_below c.args.coll c.args.r) end ∙ sym c.loop-s.invariant.0
