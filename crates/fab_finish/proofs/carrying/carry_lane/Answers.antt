use Rattle.std.proofs.Common.{◌∙◌, Ok, ap, arith}
use Rattle.fab_finish.specs.Freight.{one_if}
use Rattle.fab_finish.proofs.carrying.carry_lane.Goals as goal

pub frames-preserved : goal.frames-preserved
frames-preserved g c =
    let e = c.in_ok-carry_one.ensures in
    let inv = c.frames.invariant in
    record {
      joined = e.joined;
      count = c.carry_one.auto.peers ∙ inv.count;
      actors = e.actors ∙ inv.actors;
      schedules = e.schedules ∙ inv.schedules;
      others = λ s r other. e.others s r other ∙ inv.others s r other;
      same = λ none. absurd (cc);
      less = (let now = e.less in let was = inv.less in let one = ap one_if c.if-branch.true in omega (arith, now, was, one));
    }

pub returns-clause-others : goal.returns-clause-others
returns-clause-others g c s r other = c.in_ok-carry_one.ensures.others s r other ∙ c.frames.invariant.others s r other

pub frames-smaller : goal.frames-smaller
frames-smaller g c = let one = c.in_ok-carry_one.ensures.one (ap Ok c.if-branch.true) in omega (arith, one)
