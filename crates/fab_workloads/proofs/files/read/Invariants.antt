use Rattle.std.proofs.Common.{length}
use Rattle.fab_workloads.proofs.Progress.{Progress}
use Rattle.fab_workloads.proofs.files.read.Given as goal

abbrev pub invariant-loop-lines : goal.invariant-loop-lines
invariant-loop-lines l = Progress l.bytes l.lines l.reader

abbrev pub decreases-loop-lines : goal.decreases-loop-lines
decreases-loop-lines l = length l.lines.1
