use Rattle.std.proofs.Common.{◌≡◌, ◌≤◌, ◌+◌, ◌++◌, length, map}
use Rattle.std.specs.Prelude.{sum_by}
use Rattle.std.specs.Vec.Iter.{into_iter_items, into_iter_len}
use Rattle.fab_workloads.specs.Script.{all_numbered}
use Rattle.fab_workloads.proofs.script.all_numbered.Given as goal

abbrev pub invariant-loop-ops : goal.invariant-loop-ops
invariant-loop-ops l = (l.peers.items ++ all_numbered l.first (map (λ ops. ops.items) (into_iter_items l.ops-iterator))
    ≡ all_numbered 1 (map (λ ops. ops.items) (into_iter_items l.initial.ops-iterator)))
    × (l.first + sum_by (λ ops. length ops.items) (into_iter_items l.ops-iterator) ≤ 1_000_000_001)
    × (into_iter_len l.ops-iterator ≡ length (into_iter_items l.ops-iterator))
