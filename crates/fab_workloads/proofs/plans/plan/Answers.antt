use Rattle.std.proofs.Common.{List, ap, arith, length, sym, ◌∙◌}
use Rattle.std.specs.Prelude.{sum_by}
use Rattle.fab_workloads.proofs.Few.{sum_mapped}
use Rattle.fab_workloads.specs.Plan.{plan_ops}
use Rattle.fab_workloads.specs.declared.round.Round.{Round}
use Rattle.fab_workloads.proofs.Appended.{plan_few}
use Rattle.fab_workloads.proofs.plans.plan.Goals as goal

pub all_numbered-requires : goal.all_numbered-requires
all_numbered-requires c =
    let few = plan_few c.args.script.now.peers c.requires.1 c.args.script.now.rounds c.requires.2 in
    let same = sym (sum_mapped length (λ ops. ops.items) c.in_ok-lists.lists.items) ∙ ap (sum_by length) c.in_ok-lists.ensures
    ∙ ap (λ (rounds : List Round). sum_by length (plan_ops c.args.script.now.peers rounds)) c.as_slice.ensures in
    omega (arith, few, same)
