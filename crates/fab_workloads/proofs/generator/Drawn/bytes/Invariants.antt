use Rattle.std.proofs.Common.{◌≡◌, map}
use Rattle.fab_model.specs.Calls.{upto}
use Rattle.fab_workloads.specs.Generator.{byte_of}
use Rattle.fab_workloads.proofs.generator.Drawn.bytes.Given as goal

abbrev pub invariant-loop-j : goal.invariant-loop-j
invariant-loop-j l = l.bytes.items ≡ map (byte_of l.self.x) (upto l.j)
