use Rattle.fab_workload_laws.proofs.CollEvery.{each_settled}
use Rattle.fab_workload_laws.proofs.coll_laws.law_rounds_settled.Goals as goal

pub returns-clause-settled : goal.returns-clause-settled
returns-clause-settled c peers rounds within = (each_settled peers rounds within).0

pub returns-clause-sizes : goal.returns-clause-sizes
returns-clause-sizes c peers rounds within = (each_settled peers rounds within).1
