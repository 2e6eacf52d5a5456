-- Wrong traces, by the laws' own definitions.
use Rattle.fab_laws.proofs.rows.Refused.{cancelled_instead, got_twice, lost_inside, never_told}
use Rattle.fab_laws.proofs.refused.refused_receives.Goals as goal

pub returns-clause-cancelled : goal.returns-clause-cancelled
returns-clause-cancelled c = cancelled_instead

pub returns-clause-untold : goal.returns-clause-untold
returns-clause-untold c = never_told

pub returns-clause-twice : goal.returns-clause-twice
returns-clause-twice c = got_twice

pub returns-clause-lost : goal.returns-clause-lost
returns-clause-lost c = lost_inside
