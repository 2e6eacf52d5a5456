use Rattle.std.proofs.Common.{length, ap, sym, ◌∙◌}
use Rattle.fab_model.specs.Replay.{start}
use Rattle.fab_replay.specs.Seen.{moment_of, steps_of}
use Rattle.fab_replay.proofs.Judging.{whole}
use Rattle.fab_replay.proofs.Meaning.{means_ok}
use Rattle.fab_report.proofs.Telling.{told_lists}
use Rattle.fab_replay.proofs.verdicts.check.Goals as goal

pub open-requires : goal.open-requires
open-requires c = ap length c.as_slice.ensures ∙ (told_lists c.args.bound.now.script.conf.peers c.args.text.now c.in-Some.schedule (sym c.in_ok-schedule.ensures.told ∙ c.in-Some.is)).1

pub returns : goal.returns
returns c =
    let bound = c.args.bound.now in
    let text = c.args.text.now in
    let answers = whole bound text c.in-Some.schedule c.deref_mut.result.now c.judge.result (sym c.in_ok-schedule.ensures.told ∙ c.in-Some.is)
    (ap (moment_of bound) c.deref_mut.ensures.value ∙ c.in_ok-peers.ensures.start ∙ ap (start bound) c.as_slice.ensures) (ap steps_of c.deref_mut.ensures.value ∙ c.in_ok-peers.ensures.steps ∙ c.as_slice.ensures) c.judge.ensures in
    record { verdict = answers; means = means_ok bound text c.judge.result answers }
