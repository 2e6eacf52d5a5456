use Rattle.std.proofs.Common.{arith}
use Rattle.fab_link.proofs.Carrying.{left_count-none}
use Rattle.fab_link.proofs.carry.carry.Goals as goal

pub returns-clause-moved : goal.returns-clause-moved
returns-clause-moved c =
    let none = left_count-none c.loop-from.ports c.loop-from.invariant.all
    (λ s r l m. c.loop-from.invariant.done s r (omega arith) (omega arith)) in
    omega (arith, none)
