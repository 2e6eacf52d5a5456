use Rattle.std.proofs.Common.{◌≡◌, ◌+◌, ◌++◌, [], ◌∷◌}
use Rattle.fab_base.specs.declared.script.BytesWord.TheVariants.{Hex}
use Rattle.fab_workloads.specs.Lines.{joined, send}
use Rattle.fab_workloads.proofs.lines.add_sends.Given as goal

abbrev pub invariant-loop-k : goal.invariant-loop-k
invariant-loop-k l = l.ops.items ≡ l.fn.ops.items ++ joined l.k (λ k. send (l.before + k) 1 (l.before + k) (Hex l.payload) ∷ [])
