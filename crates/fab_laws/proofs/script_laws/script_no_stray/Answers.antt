-- The law is proved over any program, and a script is one.
use Rattle.fab_laws.proofs.ScriptLaws.{script_all_wait_at_match, script_answered_once, script_no_stray}
use Rattle.fab_laws.proofs.script_laws.script_no_stray.Goals as goal

pub returns-clause-stray : goal.returns-clause-stray
returns-clause-stray c = script_no_stray

pub returns-clause-once : goal.returns-clause-once
returns-clause-once c = script_answered_once

pub returns-clause-waits : goal.returns-clause-waits
returns-clause-waits c = script_all_wait_at_match
