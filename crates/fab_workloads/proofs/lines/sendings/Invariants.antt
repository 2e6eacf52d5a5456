use Rattle.std.proofs.Common.{◌≡◌}
use Rattle.fab_workloads.specs.Lines.{joined, sending}
use Rattle.fab_workloads.proofs.lines.sendings.Given as goal

abbrev pub invariant-loop-w : goal.invariant-loop-w
invariant-loop-w l = l.ops.items ≡ joined l.w (sending l.count l.window l.payload)
