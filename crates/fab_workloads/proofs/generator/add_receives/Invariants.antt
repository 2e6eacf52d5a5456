use Rattle.std.proofs.Common.{◌≡◌, ◌+◌, ◌++◌}
use Rattle.fab_workloads.specs.Lines.{joined}
use Rattle.fab_workloads.specs.Generator.{drawn, receive_of}
use Rattle.fab_workloads.proofs.generator.add_receives.Given as goal

abbrev pub invariant-loop-m : goal.invariant-loop-m
invariant-loop-m l = (l.drawn.x ≡ drawn l.number l.m) × (l.ops.items ≡ l.fn.ops.items ++ joined l.m (λ m. receive_of l.peers l.p (l.messages + m) (drawn l.number m)))
