-- The law is proved over any program, and a script is one.
use Rattle.fab_laws.proofs.ScriptLaws.{script_goes_once, script_got_is_told, script_none_is_lost, script_one_tells, script_took_is_told}
use Rattle.fab_laws.proofs.script_laws.script_receives.Goals as goal

pub returns-clause-got : goal.returns-clause-got
returns-clause-got c = script_got_is_told

pub returns-clause-took : goal.returns-clause-took
returns-clause-took c = script_took_is_told

pub returns-clause-only : goal.returns-clause-only
returns-clause-only c = script_one_tells

pub returns-clause-once : goal.returns-clause-once
returns-clause-once c = script_goes_once

pub returns-clause-all : goal.returns-clause-all
returns-clause-all c = script_none_is_lost
