use Rattle.std.proofs.Common.{◌≡◌}
use Rattle.fab_workloads.specs.Lines.{joined, pong}
use Rattle.fab_workloads.proofs.lines.pongs.Given as goal

abbrev pub invariant-loop-i : goal.invariant-loop-i
invariant-loop-i l = l.ops.items ≡ joined l.i (pong l.size l.payload)
