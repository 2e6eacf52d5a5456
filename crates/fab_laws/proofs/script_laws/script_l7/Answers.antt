-- The law is proved over any program, and a script is one.
use Rattle.fab_laws.proofs.ScriptLaws.{script_fences_hold, script_gone_in_order, script_items_are_of_calls, script_nothing_is_held_back}
use Rattle.fab_laws.proofs.script_laws.script_l7.Goals as goal

pub returns-clause-fenced : goal.returns-clause-fenced
returns-clause-fenced c = script_fences_hold

pub returns-clause-order : goal.returns-clause-order
returns-clause-order c = script_gone_in_order

pub returns-clause-told : goal.returns-clause-told
returns-clause-told c = script_items_are_of_calls

pub returns-clause-rest : goal.returns-clause-rest
returns-clause-rest c = script_nothing_is_held_back
