use Rattle.fab_core.proofs.Judging.{if_drops, if_drops_next, if_drops_not}
use Rattle.fab_core.proofs.looking.CoreLooking.drop_claimed.Goals as goal

pub returns-clause-ok : goal.returns-clause-ok
returns-clause-ok g c = if_drops c.args.self.now (rw (← c.self.view_is) c.known-2.ensures.read) (rw (← c.self.view_is) c.known-2.ensures.fits) c.args.ctx c.drop_aside.new.self c.drop_aside.result c.requires.granted c.drop_aside.ensures.ok

pub returns-clause-next : goal.returns-clause-next
returns-clause-next g c = if_drops_next c.args.self.now (rw (← c.self.view_is) c.known-2.ensures.read) (rw (← c.self.view_is) c.known-2.ensures.fits) c.args.ctx c.drop_aside.new.self c.drop_aside.result c.drop_aside.ensures.ok c.drop_aside.ensures.stays

pub returns-clause-err : goal.returns-clause-err
returns-clause-err g c = if_drops_not c.args.self.now (rw (← c.self.view_is) c.known-2.ensures.read) (rw (← c.self.view_is) c.known-2.ensures.fits) c.args.ctx c.drop_aside.result c.requires.granted c.drop_aside.ensures.err
