use Rattle.fab_core.proofs.Addressed.{if_inserts, together_addressed}
use Rattle.fab_core.proofs.keeping.CoreAddressing.insert.Goals as goal

pub invariant_of-self : goal.invariant_of-self
invariant_of-self g c = (c.self.invariant.0, c.self.invariant.1, together_addressed _ _ c.self.invariant.2 c.insert-report.ensures.peers c.known.ensures, c.self.invariant.3, c.self.invariant.4, rw c.insert-report.ensures.peers c.self.invariant.5)

pub returns-clause-answers : goal.returns-clause-answers
returns-clause-answers g c = rw (← c.self.view_is) (if_inserts _ c.insert-report.new.self c.self.invariant.2 c.args.names.now c.insert-report.result c.insert-report.ensures.machine)
