use Rattle.std.proofs.Common.{◌<◌, arith}
use Rattle.fab_checker_values.proofs.Elements.{push_step}
use Rattle.fab_checker_values.proofs.atomics.push_number.Goals as goal

pub loop-byte-preserved : goal.loop-byte-preserved
loop-byte-preserved c =
    let lt : c.loop-byte._byte < c.args.size = omega arith in
    rw c.in_ok-push.ensures.items (push_step c.loop-byte.out.items _ c.args.size c.loop-byte._byte c.loop-byte.left lt c.loop-byte.invariant)
