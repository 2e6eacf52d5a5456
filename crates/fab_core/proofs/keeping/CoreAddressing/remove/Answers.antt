use Rattle.fab_core.proofs.Addressed.{if_removes, if_removes_not, together_addressed}
use Rattle.fab_core.proofs.keeping.CoreAddressing.remove.Goals as goal

pub invariant_of-self : goal.invariant_of-self
invariant_of-self g c = (c.self.invariant.0, c.self.invariant.1, together_addressed _ _ c.self.invariant.2 c.remove-removed.ensures.peers c.known.ensures, c.self.invariant.3, c.self.invariant.4, rw c.remove-removed.ensures.peers c.self.invariant.5)

pub returns-clause-ok : goal.returns-clause-ok
returns-clause-ok g c = rw (← c.self.view_is) (if_removes _ c.remove-removed.new.self c.self.invariant.2 c.args.index c.remove-removed.result c.remove-removed.ensures.machine)

pub returns-clause-err : goal.returns-clause-err
returns-clause-err g c = rw (← c.self.view_is) (if_removes_not _ c.remove-removed.new.self c.self.invariant.2 c.args.index c.remove-removed.result c.remove-removed.ensures.machine)
