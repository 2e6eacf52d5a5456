use Rattle.fab_core.proofs.Calling.{if_posts, if_posts_next, if_posts_not}
use Rattle.fab_core.proofs.machine.CoreMachine.post.Goals as goal

pub returns-clause-ok : goal.returns-clause-ok
returns-clause-ok g c = if_posts c.args.self.now c.args.ask.now c.args.buf (rw (← c.self.view_is) c.known-2.ensures.read) (rw (← c.self.view_is) c.known-2.ensures.fits) c.ask.new.self c.ask.result c.requires.granted c.ask.ensures.ok

pub returns-clause-next : goal.returns-clause-next
returns-clause-next g c = if_posts_next c.args.self.now c.args.ask.now c.args.buf (rw (← c.self.view_is) c.known-2.ensures.read) (rw (← c.self.view_is) c.known-2.ensures.fits) c.ask.new.self c.ask.result c.ask.ensures.ok c.ask.ensures.stays

pub returns-clause-err : goal.returns-clause-err
returns-clause-err g c = if_posts_not c.args.self.now c.args.ask.now c.args.buf (rw (← c.self.view_is) c.known-2.ensures.read) (rw (← c.self.view_is) c.known-2.ensures.fits) c.ask.result c.requires.granted c.ask.ensures.err
