use Rattle.fab_core.specs.Parts.{state_of}
use Rattle.fab_core.proofs.Judging.{if_final_look, if_look_none, if_look_some}
use Rattle.fab_core.proofs.looking.CoreLooking.look_fault.Goals as goal

pub returns-clause-some : goal.returns-clause-some
returns-clause-some g c = if_look_some c.args.self.now (rw (← c.self.view_is) c.known-2.ensures.read) (rw (← c.self.view_is) c.known-2.ensures.fits) c.args.look.now c.seek_fault.result c.seek_fault.ensures

pub returns-clause-lasting : goal.returns-clause-lasting
returns-clause-lasting g c = if_final_look (state_of c.args.self.now) c.args.look.now c.seek_fault.result c.seek_fault.ensures

pub returns-clause-none : goal.returns-clause-none
returns-clause-none g c = if_look_none c.args.self.now (rw (← c.self.view_is) c.known-2.ensures.read) (rw (← c.self.view_is) c.known-2.ensures.fits) c.args.look.now c.seek_fault.result c.seek_fault.ensures
