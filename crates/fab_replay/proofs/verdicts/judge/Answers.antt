use Rattle.std.proofs.Common.{ap, sym, ◌∙◌, get_or}
use Rattle.fab_replay.proofs.Judging.{judged_none, judged_left_read}
use Rattle.fab_replay.proofs.verdicts.judge.Goals as goal

pub returns-in_ok-step-in-Some : goal.returns-in_ok-step-in-Some
returns-in_ok-step-in-Some c =
    judged_left_read c.args.bound.now c.args.text.now _ _ c.run.new.peers c.in_ok-run.ensures.ended c.in_ok-run.ensures.steps c.in_ok-peer-in-Some.peer c.in-Some.number c.in_ok-step-in-Some.step (get_or c.run.new.peers c.in-Some.number c.index-peers-number.result)
    (sym c.first_left.ensures.left ∙ c.in-Some.is) c.in_ok-peer-in-Some.ensures c.in-Some.ensures.within (ap (λ d. get_or c.run.new.peers c.in-Some.number d) c.index-peers-number.is) c.in_ok-step-in-Some.ensures

pub returns-in-None : goal.returns-in-None
returns-in-None c =
    judged_none c.args.bound.now c.args.text.now _ _ c.run.new.peers c.in_ok-run.ensures.ended c.in_ok-run.ensures.steps c.compared.result (sym c.first_left.ensures.left ∙ c.in-None.is) c.compared.ensures
