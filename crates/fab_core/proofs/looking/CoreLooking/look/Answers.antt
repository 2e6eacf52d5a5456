use Rattle.fab_core.proofs.Judging.{if_looks, if_looks_next, if_looks_not}
use Rattle.fab_core.proofs.looking.CoreLooking.look.Goals as goal

pub returns-clause-ok : goal.returns-clause-ok
returns-clause-ok g c = if_looks c.args.self.now (rw (← c.self.view_is) c.known-2.ensures.read) (rw (← c.self.view_is) c.known-2.ensures.fits) c.args.look.now c.seek.new.self c.seek.result c.requires.granted c.seek.ensures.ok

pub returns-clause-next : goal.returns-clause-next
returns-clause-next g c = if_looks_next c.args.self.now (rw (← c.self.view_is) c.known-2.ensures.read) (rw (← c.self.view_is) c.known-2.ensures.fits) c.args.look.now c.seek.new.self c.seek.result c.seek.ensures.ok c.seek.ensures.stays

pub returns-clause-err : goal.returns-clause-err
returns-clause-err g c = if_looks_not c.args.self.now (rw (← c.self.view_is) c.known-2.ensures.read) (rw (← c.self.view_is) c.known-2.ensures.fits) c.args.look.now c.seek.result c.requires.granted c.seek.ensures.err
