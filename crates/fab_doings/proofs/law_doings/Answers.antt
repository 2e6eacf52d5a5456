-- The order is that in which the moves of all ports merge; the laws hold of it as they do of any program.
use Rattle.fab_doings.proofs.Reaching.{program_reaches}
use Rattle.fab_doings.proofs.Obeying.{program_obeys}
use Rattle.fab_doings.proofs.law_doings.Goals as goal

pub returns-clause-reached : goal.returns-clause-reached
returns-clause-reached c = program_reaches

pub returns-clause-obeyed : goal.returns-clause-obeyed
returns-clause-obeyed c = program_obeys
