use Rattle.std.proofs.Common.{[], ap, ap₂, ◌++◌, ◌+◌, ◌-◌, ◌∙◌, ◌∷◌}
use Rattle.fab_workloads.proofs.Windows.{received_after}
use Rattle.fab_workloads.proofs.lines.add_receiving.Goals as goal

pub returns : goal.returns
returns c =
    received_after c.args.size c.args.count c.args.window c.args.w c.sent_by-before.result c.saturating_sub-n.result _ c.args.ops.now.items _ _ _
    c.sent_by-before.ensures.value
    (c.saturating_sub-n.ensures ∙ ap (λ n. n - c.sent_by-before.result) c.sent_by.ensures.value)
    (ap₂ (λ a b. a + b) c.from.ensures c.from-2.ensures)
    c.in_ok-add_receives.ensures
    c.in_ok-add_waits.ensures
    (c.in_ok-push.ensures.items ∙ ap (λ op. c.add_waits.new.ops.items ++ op ∷ []) c.acknowledge.ensures)
