use Rattle.fab_workload_laws.proofs.Every.{each_settled}
use Rattle.fab_workload_laws.proofs.laws.law_workloads_settled.Goals as goal

pub returns-clause-settled : goal.returns-clause-settled
returns-clause-settled c w file within = (each_settled w file within).0

pub returns-clause-sizes : goal.returns-clause-sizes
returns-clause-sizes c w file within = (each_settled w file within).1
