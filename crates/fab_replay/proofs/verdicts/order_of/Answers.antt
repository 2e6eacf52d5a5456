use Rattle.std.proofs.Common.{◌≡◌, length, ap, sym, subst₂, ◌∙◌}
use Rattle.fab_base.specs.declared.peers.Step.{Step}
use Rattle.fab_model.specs.Laws.{Run}
use Rattle.fab_model.specs.Orders.{Moment, replay, turn}
use Rattle.fab_model.specs.Peers.{Actor, fabric}
use Rattle.fab_model.specs.Replay.{start, replayed}
use Rattle.fab_model.specs.Views.{rule}
use Rattle.fab_replay.specs.Seen.{moment_of}
use Rattle.fab_report.proofs.Telling.{told_lists}
use Rattle.fab_replay.proofs.verdicts.order_of.Goals as goal

pub open-requires : goal.open-requires
open-requires c = ap length c.as_slice.ensures ∙ (told_lists c.args.bound.now.script.conf.peers c.args.text.now c.in-Some.schedule (sym c.in_ok-schedule.ensures.told ∙ c.in-Some.is)).1

pub returns : goal.returns
unfolding replayed
returns c =
    let bound = c.args.bound.now in
    let begins : moment_of bound c.deref_mut.result.now ≡ start bound c.in-Some.schedule = ap (moment_of bound) c.deref_mut.ensures.value ∙ c.in_ok-peers.ensures.start ∙ ap (start bound) c.as_slice.ensures in
    let ends = c.in_ok-order.ensures.ended ∙ ap (replay (rule fabric)) begins in
    let leads = subst₂ (λ (m : Moment Actor Step) (x : Moment Actor Step). Run (turn (rule fabric)) m c.in_ok-order.order.items x) begins ends c.in_ok-order.ensures.order in
    record { order = record { schedule = c.in-Some.schedule; told = sym c.in_ok-schedule.ensures.told ∙ c.in-Some.is; leads = leads }; none = tt }
