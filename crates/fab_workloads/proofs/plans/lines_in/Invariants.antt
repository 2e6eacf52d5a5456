use Rattle.std.proofs.Common.{◌*◌, ◌≡◌, ◌≤◌}
use Rattle.fab_workloads.proofs.Appended.{lines_below}
use Rattle.fab_workloads.proofs.plans.lines_in.Given as goal

abbrev pub invariant-loop-s : goal.invariant-loop-s
invariant-loop-s l = (l.lines ≡ lines_below l.coll l.r l.s) × (l.lines ≤ 3 * l.s)
