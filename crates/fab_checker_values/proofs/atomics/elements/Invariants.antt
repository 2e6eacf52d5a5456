use Rattle.std.proofs.Common.{◌≡◌, ◌-◌, ◌++◌, length}
use Rattle.fab_model.specs.Target.{elements}
use Rattle.fab_checker_values.proofs.atomics.elements.Given as goal

abbrev pub invariant-loop-element : goal.invariant-loop-element
invariant-loop-element l = elements (length l.fn.old) l.atom l.fn.old l.fn.operand l.fn.compares ≡ l.out.items ++ elements (length l.fn.old - l._element) l.atom l.ts l.bs l.cs
