-- The law is proved over any program, and a script is one.
use Rattle.fab_laws.proofs.ScriptLaws.{script_taken_in_order}
use Rattle.fab_laws.proofs.script_laws.script_l3.Goals as goal

pub returns : goal.returns
returns c = record { taken = script_taken_in_order }
