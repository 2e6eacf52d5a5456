-- The law is proved over any program, and a script is one.
use Rattle.fab_laws.proofs.ScriptLaws.{script_freed_rightly, script_lost_is_put_away, script_stays_claimed, script_takes_tell}
use Rattle.fab_laws.proofs.script_laws.script_claims.Goals as goal

pub returns-clause-freed : goal.returns-clause-freed
returns-clause-freed c = script_freed_rightly

pub returns-clause-stays : goal.returns-clause-stays
returns-clause-stays c = script_stays_claimed

pub returns-clause-lost : goal.returns-clause-lost
returns-clause-lost c = script_lost_is_put_away

pub returns-clause-takes : goal.returns-clause-takes
returns-clause-takes c = script_takes_tell
