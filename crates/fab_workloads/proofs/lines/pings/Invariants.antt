use Rattle.std.proofs.Common.{◌≡◌}
use Rattle.fab_workloads.specs.Lines.{joined, ping}
use Rattle.fab_workloads.proofs.lines.pings.Given as goal

abbrev pub invariant-loop-i : goal.invariant-loop-i
invariant-loop-i l = l.ops.items ≡ joined l.i (ping l.size l.payload)
