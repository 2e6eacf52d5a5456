use Rattle.std.proofs.Common.{List, ap, ap₂, sym, take, ◌++◌, ◌+◌, ◌∙◌}
use Rattle.fab_base.specs.declared.script.LineOp.{LineOp}
use Rattle.fab_workloads.specs.Plan.{round_ops, rounds_ops}
use Rattle.fab_workloads.specs.declared.round.Round.{Round}
use Rattle.fab_workloads.proofs.Appended.{one_round}
use Rattle.fab_workloads.proofs.plans.rank_ops.Goals as goal

pub loop-round-preserved : goal.loop-round-preserved
loop-round-preserved c =
    let peers = c.args.peers in
    let r = c.args.r in
    let rounds = c.args.rounds.now in
    let k = c.loop-round.round-index in (
      c.in_ok-add_round.ensures
          ∙ ap₂ (λ (ls : List LineOp) i. ls ++ round_ops peers (i + 1) r c.round-item.result) c.loop-round.invariant.0 c.loop-round.invariant.1
          ∙ ap (λ (round : Round). rounds_ops peers 1 r (take k rounds) ++ round_ops peers (k + 1) r round) c.round-item.is
          ∙ sym (one_round peers r rounds k c.round-item.result c.loop-round-test.true),
      ap (λ n. n + 1) c.loop-round.invariant.1,
    )
