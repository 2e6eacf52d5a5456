use Rattle.fab_core.proofs.Calling.{if_cancels, if_cancels_not, is_there}
use Rattle.fab_core.proofs.machine.CoreMachine.cancel.Goals as goal

pub leave-requires : goal.leave-requires
leave-requires g c = is_there c.args.self.now c.args.ctx (rw (← c.self.view_is) c.known-2.ensures.read) (rw (← c.self.view_is) c.known-2.ensures.fits) c.requires.there

pub returns-clause-ok : goal.returns-clause-ok
returns-clause-ok g c = if_cancels c.args.self.now c.args.ctx (rw (← c.self.view_is) c.known-2.ensures.read) (rw (← c.self.view_is) c.known-2.ensures.fits) c.leave.new.self c.leave.result c.requires.there c.leave.ensures.ok

pub returns-clause-err : goal.returns-clause-err
returns-clause-err g c = if_cancels_not c.args.self.now c.args.ctx (rw (← c.self.view_is) c.known-2.ensures.read) (rw (← c.self.view_is) c.known-2.ensures.fits) c.leave.result c.requires.there c.leave.ensures.err
