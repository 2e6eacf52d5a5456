use Rattle.std.proofs.Common.{◌≡◌, ◌≤◌, ◌*◌}
use Rattle.fab_workloads.specs.Generator.{drawn, length_of, total}
use Rattle.fab_workloads.proofs.generator.generated_bytes.Given as goal

abbrev pub invariant-loop-m : goal.invariant-loop-m
invariant-loop-m l = (l.drawn.x ≡ drawn l.number l._m) × (l.bytes ≡ total l._m (λ m. length_of (drawn l.number m))) × (l.bytes ≤ 16_384 * l._m)
