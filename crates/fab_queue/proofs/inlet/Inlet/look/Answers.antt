use Rattle.fab_queue.proofs.Lanes.{gets, inside}
use Rattle.fab_queue.proofs.inlet.Inlet.look.Goals as goal

pub pop_as-requires-clause-rule : goal.pop_as-requires-clause-rule
pop_as-requires-clause-rule g c = let may = c.self.invariant.1.gets in (gets _ _ may, inside _ _ may)
