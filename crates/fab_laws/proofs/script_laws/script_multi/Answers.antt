-- The law is proved over any program, and a script is one.
use Rattle.fab_laws.proofs.ScriptLaws.{script_closes_in_time, script_parts_stand, script_places_follow, script_releases_in_time, script_releases_tell, script_tells_once}
use Rattle.fab_laws.proofs.script_laws.script_multi.Goals as goal

pub returns-clause-places : goal.returns-clause-places
returns-clause-places c = script_places_follow

pub returns-clause-closes : goal.returns-clause-closes
returns-clause-closes c = script_closes_in_time

pub returns-clause-parts : goal.returns-clause-parts
returns-clause-parts c = script_parts_stand

pub returns-clause-released : goal.returns-clause-released
returns-clause-released c = script_releases_tell

pub returns-clause-back : goal.returns-clause-back
returns-clause-back c = script_releases_in_time

pub returns-clause-each : goal.returns-clause-each
returns-clause-each c = script_tells_once
