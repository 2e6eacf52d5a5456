-- Wrong traces, by the laws' own definitions.
use Rattle.fab_laws.proofs.rows.Refused.{freed_twice, other_context, other_message, slips_away, unclaimed, vanishes}
use Rattle.fab_laws.proofs.refused.refused_claims.Goals as goal

pub returns-clause-context : goal.returns-clause-context
returns-clause-context c = other_context

pub returns-clause-twice : goal.returns-clause-twice
returns-clause-twice c = freed_twice

pub returns-clause-unclaimed : goal.returns-clause-unclaimed
returns-clause-unclaimed c = unclaimed

pub returns-clause-slips : goal.returns-clause-slips
returns-clause-slips c = slips_away

pub returns-clause-vanishes : goal.returns-clause-vanishes
returns-clause-vanishes c = vanishes

pub returns-clause-other : goal.returns-clause-other
returns-clause-other c = other_message
