use Rattle.fab_core.proofs.Judging.{claim_there, if_takes, if_takes_next, if_takes_not}
use Rattle.fab_core.proofs.looking.CoreLooking.take_claimed.Goals as goal

pub take_aside-requires : goal.take_aside-requires
take_aside-requires g c = claim_there c.args.self.now (rw (← c.self.view_is) c.known-2.ensures.read) (rw (← c.self.view_is) c.known-2.ensures.fits) c.args.ctx c.args.buf c.requires.granted

pub returns-clause-ok : goal.returns-clause-ok
returns-clause-ok g c = if_takes c.args.self.now (rw (← c.self.view_is) c.known-2.ensures.read) (rw (← c.self.view_is) c.known-2.ensures.fits) c.args.ctx c.args.buf c.take_aside.new.self c.take_aside.result c.requires.granted c.take_aside.ensures.ok

pub returns-clause-next : goal.returns-clause-next
returns-clause-next g c = if_takes_next c.args.self.now (rw (← c.self.view_is) c.known-2.ensures.read) (rw (← c.self.view_is) c.known-2.ensures.fits) c.args.ctx c.args.buf c.take_aside.new.self c.take_aside.result c.take_aside.ensures.ok c.take_aside.ensures.stays

pub returns-clause-err : goal.returns-clause-err
returns-clause-err g c = if_takes_not c.args.self.now (rw (← c.self.view_is) c.known-2.ensures.read) (rw (← c.self.view_is) c.known-2.ensures.fits) c.args.ctx c.args.buf c.take_aside.result c.requires.granted c.take_aside.ensures.err
