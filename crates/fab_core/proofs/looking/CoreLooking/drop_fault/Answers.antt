use Rattle.fab_core.specs.Parts.{state_of}
use Rattle.fab_core.proofs.Judging.{if_drop_none, if_drop_some, if_final_claimed}
use Rattle.fab_core.proofs.looking.CoreLooking.drop_fault.Goals as goal

pub returns-clause-some : goal.returns-clause-some
returns-clause-some g c = if_drop_some c.args.self.now (rw (← c.self.view_is) c.known-2.ensures.read) (rw (← c.self.view_is) c.known-2.ensures.fits) c.args.ctx c.claimed_fault.result c.claimed_fault.ensures

pub returns-clause-lasting : goal.returns-clause-lasting
returns-clause-lasting g c = if_final_claimed (state_of c.args.self.now) 0 c.args.ctx c.claimed_fault.result c.claimed_fault.ensures

pub returns-clause-none : goal.returns-clause-none
returns-clause-none g c = if_drop_none c.args.self.now (rw (← c.self.view_is) c.known-2.ensures.read) (rw (← c.self.view_is) c.known-2.ensures.fits) c.args.ctx c.claimed_fault.result c.claimed_fault.ensures
