use Rattle.fab_workload_laws.proofs.CollEvery.{each_answered, each_folds, each_told, none_stuck, text_told}
use Rattle.fab_workload_laws.proofs.coll_laws.law_rounds_done.Goals as goal

pub returns-clause-answered : goal.returns-clause-answered
returns-clause-answered c = each_answered

pub returns-clause-results : goal.returns-clause-results
returns-clause-results c = each_told

pub returns-clause-folds : goal.returns-clause-folds
returns-clause-folds c = each_folds

pub returns-clause-done : goal.returns-clause-done
returns-clause-done c = none_stuck

pub returns-clause-text : goal.returns-clause-text
returns-clause-text c = text_told
