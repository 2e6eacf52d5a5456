-- The law is proved over any program.
use Rattle.fab_laws.proofs.receiving.Holding.{closes_in_time, parts_stand, places_follow, releases_in_time, releases_tell, tells_once}
use Rattle.fab_laws.proofs.laws.law_multi.Goals as goal

pub returns-clause-places : goal.returns-clause-places
returns-clause-places c = places_follow

pub returns-clause-closes : goal.returns-clause-closes
returns-clause-closes c = closes_in_time

pub returns-clause-parts : goal.returns-clause-parts
returns-clause-parts c = parts_stand

pub returns-clause-released : goal.returns-clause-released
returns-clause-released c = releases_tell

pub returns-clause-back : goal.returns-clause-back
returns-clause-back c = releases_in_time

pub returns-clause-each : goal.returns-clause-each
returns-clause-each c = tells_once
