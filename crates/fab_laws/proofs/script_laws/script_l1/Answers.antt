-- The law is proved over any program, and a script is one.
use Rattle.fab_laws.proofs.ScriptLaws.{script_none_passed_over}
use Rattle.fab_laws.proofs.script_laws.script_l1.Goals as goal

pub returns : goal.returns
returns c = record { passed = script_none_passed_over }
