use Rattle.std.proofs.Common.{List, ap₂, sym, ℕ, ◌*◌, ◌+◌, ◌∙◌}
use Rattle.fab_base.specs.declared.script.BytesWord.TheVariants.{Hex}
use Rattle.fab_workloads.specs.Lines.{send}
use Rattle.fab_workloads.specs.Plan.{send_to}
use Rattle.fab_fold.specs.Shares.{needs}
use Rattle.fab_workloads.specs.Rounds.{share_of}
use Rattle.fab_workloads.proofs.Appended.{none_kept, one_kept}
use Rattle.fab_workloads.proofs.plans.add_sends.Goals as goal
use Rattle.fab_workloads.proofs.plans.add_sends.Goals.{then-needs+in_ok-send+in_ok-push, else-needs}

pub loop-t-preserved : goal.loop-t-preserved
loop-t-preserved c =
    let round = c.args.round.now in
    let r = c.args.r in
    elim c.if-needs.branch [
      | then-needs+in_ok-send+in_ok-push w ↦ one_kept (send_to c.args.i (share_of round r)) (λ t. needs round.coll t r) c.loop-t.t c.args.ops.now.items c.loop-t.ops.items c.loop-t.invariant
          c.if-needs.ops.items w.in_ok-send.field-0 (sym c.needs.ensures ∙ w.if-needs.true) (let i = w.ops-is in let p = w.in_ok-push.ensures.items in cc) (w.in_ok-send.ensures ∙ ap₂ (λ n (share : List ℕ). send (128 * c.args.i + n) c.loop-t.t c.args.i (Hex share)) w.from.ensures w.share_of.ensures)
      | else-needs w ↦ none_kept (send_to c.args.i (share_of round r)) (λ t. needs round.coll t r) c.loop-t.t c.args.ops.now.items c.loop-t.ops.items c.loop-t.invariant
          c.if-needs.ops.items (sym c.needs.ensures ∙ w.if-needs.false) (let i = w.ops-is in cc)
    ]
