use Rattle.std.proofs.Common.{ap, ap₂, map, sum, sym, ◌%◌, ◌*◌, ◌+◌, ◌/◌, ◌∙◌}
use Rattle.fab_model.specs.Calls.{upto}
use Rattle.fab_workloads.proofs.Sums.{bytes_summed}
use Rattle.fab_workloads.specs.Generator.{byte_of}
use Rattle.fab_workloads.proofs.generator.Drawn.sum.Goals as goal

pub returns-clause-value : goal.returns-clause-value
returns-clause-value c =
    let x = c.args.self.x in
    ap₂ (λ blocks rest. 32_640 * blocks + rest) (c.from.ensures ∙ ap (λ n. n / 256) c.len-len.ensures.value)
    (c.sum_of_first.ensures.value ∙ ap (λ n. sum (map (byte_of x) (upto (n % 256)))) c.len-len.ensures.value)
    ∙ sym (bytes_summed x)
