-- The law is proved over any program, and a script is one.
use Rattle.fab_laws.proofs.ScriptLaws.{script_served_in_order}
use Rattle.fab_laws.proofs.script_laws.script_l2.Goals as goal

pub returns : goal.returns
returns c = record { served = script_served_in_order }
