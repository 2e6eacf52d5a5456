-- The law is proved over any program, and a script is one.
use Rattle.fab_laws.proofs.ScriptLaws.{script_numbers_complete, script_one_final_completion}
use Rattle.fab_laws.proofs.script_laws.script_l4.Goals as goal

pub returns-clause-once : goal.returns-clause-once
returns-clause-once c = script_one_final_completion

pub returns-clause-numbers : goal.returns-clause-numbers
returns-clause-numbers c = script_numbers_complete
