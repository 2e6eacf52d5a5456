use Rattle.fab_workloads.proofs.Within.{files_within}
use Rattle.fab_workload_laws.proofs.coll_laws.law_files.Goals as goal

pub returns : goal.returns
returns c = files_within
