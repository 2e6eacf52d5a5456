use Rattle.std.proofs.Common.{◌≡◌, ◌≤◌, ◌*◌, sum}
use Rattle.fab_workloads.specs.Generator.{bytes_of, drawn, total}
use Rattle.fab_workloads.proofs.generator.generated_sum.Given as goal

abbrev pub invariant-loop-m : goal.invariant-loop-m
invariant-loop-m l = (l.drawn.x ≡ drawn l.number l._m) × (l.sum ≡ total l._m (λ m. sum (bytes_of (drawn l.number m)))) × (l.sum ≤ 4_177_920 * l._m)
