-- The law is proved over any program, and a script is one.
use Rattle.fab_laws.proofs.ScriptLaws.{script_entries_tell, script_items_are_sized, script_receives_tell}
use Rattle.fab_laws.proofs.script_laws.script_messages.Goals as goal

pub returns-clause-entries : goal.returns-clause-entries
returns-clause-entries c = script_entries_tell

pub returns-clause-receives : goal.returns-clause-receives
returns-clause-receives c = script_receives_tell

pub returns-clause-sized : goal.returns-clause-sized
returns-clause-sized c = script_items_are_sized
