use Rattle.std.proofs.Common.{ap, arith, length, sym, ◌∙◌}
use Rattle.std.specs.Prelude.{sum_by}
use Rattle.fab_workloads.proofs.Few.{few_lines, sum_mapped}
use Rattle.fab_workloads.proofs.script.bound.Goals as goal

pub all_numbered-requires : goal.all_numbered-requires
all_numbered-requires c =
    let few = few_lines c.args.workload c.args.file.now c.requires in
    let same = sym (sum_mapped length (λ ops. ops.items) c.in_ok-ops.ops.items) ∙ ap (sum_by length) c.in_ok-ops.ensures in
    omega (arith, few, same)
