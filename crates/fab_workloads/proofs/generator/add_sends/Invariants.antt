use Rattle.std.proofs.Common.{◌≡◌, ◌++◌}
use Rattle.fab_workloads.specs.Lines.{joined}
use Rattle.fab_workloads.specs.Generator.{drawn, send_of}
use Rattle.fab_workloads.proofs.generator.add_sends.Given as goal

abbrev pub invariant-loop-m : goal.invariant-loop-m
invariant-loop-m l = (l.drawn.x ≡ drawn l.number l.m) × (l.ops.items ≡ l.fn.ops.items ++ joined l.m (λ m. send_of l.peers l.p m (drawn l.number m)))
