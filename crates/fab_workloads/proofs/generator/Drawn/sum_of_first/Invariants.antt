use Rattle.std.proofs.Common.{◌≡◌, ◌≤◌, ◌*◌, map, sum}
use Rattle.fab_model.specs.Calls.{upto}
use Rattle.fab_workloads.specs.Generator.{byte_of}
use Rattle.fab_workloads.proofs.generator.Drawn.sum_of_first.Given as goal

abbrev pub invariant-loop-j : goal.invariant-loop-j
invariant-loop-j l = (l.sum ≡ sum (map (byte_of l.self.x) (upto l.j))) × (l.sum ≤ 255 * l.j)
