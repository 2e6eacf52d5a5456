use Rattle.fab_atomics.proofs.Elements.{Done}
use Rattle.fab_atomics.proofs.ranges.apply.Given as goal

abbrev pub invariant-loop-i : goal.invariant-loop-i
invariant-loop-i l = Done l.op l.num l.fn.target l.operand l.compare l.i l.target
