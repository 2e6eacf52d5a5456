-- The law is proved over any program, and a script is one.
use Rattle.fab_laws.proofs.ScriptLaws.{script_all_is_taken, script_arrived_is_first, script_arrived_is_posted, script_taken_is_first, script_taken_is_posted, script_whole_has_arrived}
use Rattle.fab_laws.proofs.script_laws.script_streams.Goals as goal

pub returns-clause-sent : goal.returns-clause-sent
returns-clause-sent c = script_taken_is_first

pub returns-clause-posted : goal.returns-clause-posted
returns-clause-posted c = script_taken_is_posted

pub returns-clause-arrived : goal.returns-clause-arrived
returns-clause-arrived c = script_arrived_is_first

pub returns-clause-asked : goal.returns-clause-asked
returns-clause-asked c = script_arrived_is_posted

pub returns-clause-behind : goal.returns-clause-behind
returns-clause-behind c = script_whole_has_arrived

pub returns-clause-rest : goal.returns-clause-rest
returns-clause-rest c = script_all_is_taken
