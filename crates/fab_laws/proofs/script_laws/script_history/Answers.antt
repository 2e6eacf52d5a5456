-- The law is proved over any program, and a script is one.
use Rattle.fab_laws.proofs.ScriptLaws.{script_got_rightly, script_past_tells_state}
use Rattle.fab_laws.proofs.script_laws.script_history.Goals as goal

pub returns-clause-got : goal.returns-clause-got
returns-clause-got c = script_got_rightly

pub returns-clause-state : goal.returns-clause-state
returns-clause-state c = script_past_tells_state
