use Rattle.std.proofs.Common.{◌≡◌}
use Rattle.fab_workloads.specs.Lines.{joined, receiving}
use Rattle.fab_workloads.proofs.lines.receivings.Given as goal

abbrev pub invariant-loop-w : goal.invariant-loop-w
invariant-loop-w l = l.ops.items ≡ joined l.w (receiving l.size l.count l.window)
