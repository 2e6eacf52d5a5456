use Rattle.std.proofs.Common.{◌≡◌, ◌+◌, ◌++◌, length}
use Rattle.std.specs.Vec.Iter.{into_iter_items, into_iter_len}
use Rattle.fab_workloads.specs.Script.{numbered}
use Rattle.fab_workloads.proofs.script.numbered.Given as goal

abbrev pub invariant-loop-op : goal.invariant-loop-op
invariant-loop-op l = (l.lines.items ++ numbered l.number (into_iter_items l.op-iterator) ≡ numbered l.fn.first (into_iter_items l.initial.op-iterator))
    × (l.number + length (into_iter_items l.op-iterator) ≡ l.fn.first + length (into_iter_items l.initial.op-iterator))
    × (into_iter_len l.op-iterator ≡ length (into_iter_items l.op-iterator))
