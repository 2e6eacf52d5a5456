use Rattle.fab_workload_laws.proofs.Every.{each_answered, none_stuck}
use Rattle.fab_workload_laws.proofs.laws.law_workloads_done.Goals as goal

pub returns-clause-answered : goal.returns-clause-answered
returns-clause-answered c = each_answered

pub returns-clause-done : goal.returns-clause-done
returns-clause-done c = none_stuck
