use Rattle.fab_link.proofs.Kept.{IsKept-bring}
use Rattle.fab_link.proofs.lane.PlainLane.bring.Goals as goal

pub invariant_of-self-2 : goal.invariant_of-self-2
invariant_of-self-2 c = IsKept-bring _ _ _ _ _ _ _ _ _ c.self.invariant (rw (← c.self.view_is) at c.requires) c.in_default.ensures.items
