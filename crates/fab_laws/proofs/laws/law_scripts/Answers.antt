-- The law is proved over any bound script.
use Rattle.fab_laws.proofs.Scripts.{rest_is_rest, scripts_are_programs, sight_is_sight}
use Rattle.fab_laws.proofs.laws.law_scripts.Goals as goal

pub returns-clause-runs : goal.returns-clause-runs
returns-clause-runs c = scripts_are_programs

pub returns-clause-rest : goal.returns-clause-rest
returns-clause-rest c = rest_is_rest

pub returns-clause-sees : goal.returns-clause-sees
returns-clause-sees c = sight_is_sight
