use Rattle.std.proofs.Common.{List, ap₂, length, sym, ℕ, ◌*◌, ◌+◌, ◌∙◌}
use Rattle.fab_workloads.specs.Lines.{receive}
use Rattle.fab_workloads.specs.Plan.{receive_of}
use Rattle.fab_fold.specs.Shares.{needs}
use Rattle.fab_workloads.proofs.Appended.{none_kept, one_kept}
use Rattle.fab_workloads.proofs.plans.add_receives.Goals as goal
use Rattle.fab_workloads.proofs.plans.add_receives.Goals.{then-needs+in_ok-push, else-needs}

pub loop-s-preserved : goal.loop-s-preserved
loop-s-preserved c =
    let round = c.args.round.now in
    let r = c.args.r in
    elim c.if-needs.branch [
      | then-needs+in_ok-push w ↦ one_kept (receive_of c.args.i round) (λ s. needs round.coll r s) c.loop-s.s c.args.ops.now.items c.loop-s.ops.items c.loop-s.invariant
          c.if-needs.ops.items w.receive.result (sym c.needs.ensures ∙ w.if-needs.true) (let i = w.ops-is in let p = w.in_ok-push.ensures.items in cc)
          (w.receive.ensures ∙ ap₂ (λ n (share : List ℕ). receive (128 * c.args.i + 64 + n) c.loop-s.s c.args.i (length share)) w.from.ensures w.share_of.ensures)
      | else-needs w ↦ none_kept (receive_of c.args.i round) (λ s. needs round.coll r s) c.loop-s.s c.args.ops.now.items c.loop-s.ops.items c.loop-s.invariant
          c.if-needs.ops.items (sym c.needs.ensures ∙ w.if-needs.false) (let i = w.ops-is in cc)
    ]
