use Rattle.std.proofs.Common.{◌≡◌, ◌-◌, ◌++◌}
use Rattle.fab_model.specs.Target.{bytes_of}
use Rattle.fab_checker_values.proofs.atomics.push_number.Given as goal

abbrev pub invariant-loop-byte : goal.invariant-loop-byte
invariant-loop-byte l = l.out.items ++ bytes_of (l.size - l._byte) l.left ≡ l.fn.out.items ++ bytes_of l.size l.number
