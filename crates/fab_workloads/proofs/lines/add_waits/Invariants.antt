use Rattle.std.proofs.Common.{◌≡◌, ◌+◌, ◌++◌, [], ◌∷◌}
use Rattle.fab_workloads.specs.Lines.{joined, wait}
use Rattle.fab_workloads.proofs.lines.add_waits.Given as goal

abbrev pub invariant-loop-k : goal.invariant-loop-k
invariant-loop-k l = l.ops.items ≡ l.fn.ops.items ++ joined l.k (λ k. wait (l.before + k) ∷ [])
