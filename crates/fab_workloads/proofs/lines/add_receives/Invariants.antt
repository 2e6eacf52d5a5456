use Rattle.std.proofs.Common.{◌≡◌, ◌+◌, ◌++◌, [], ◌∷◌}
use Rattle.fab_workloads.specs.Lines.{joined, receive}
use Rattle.fab_workloads.proofs.lines.add_receives.Given as goal

abbrev pub invariant-loop-k : goal.invariant-loop-k
invariant-loop-k l = l.ops.items ≡ l.fn.ops.items ++ joined l.k (λ k. receive (l.before + k) 0 (l.before + k) l.size ∷ [])
