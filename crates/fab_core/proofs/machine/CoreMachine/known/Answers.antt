use Rattle.fab_core.proofs.Steady.{steady}
use Rattle.fab_core.proofs.machine.CoreMachine.known.Goals as goal

pub returns : goal.returns
returns g c = steady c.args.self.now (rw (← c.self.view_is) c.self.invariant.2) (rw (← c.self.view_is) c.known.ensures) (rw (← c.self.view_is) c.known-2.ensures) (rw (← c.self.view_is) c.known-3.ensures.read) (rw (← c.self.view_is) c.known-3.ensures.unread)
