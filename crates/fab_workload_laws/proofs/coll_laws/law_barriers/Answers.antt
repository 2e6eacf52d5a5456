use Rattle.fab_workload_laws.proofs.CollEvery.{barriers, none_ahead}
use Rattle.fab_workload_laws.proofs.coll_laws.law_barriers.Goals as goal

pub returns-clause-ahead : goal.returns-clause-ahead
returns-clause-ahead c = none_ahead

pub returns-clause-barrier : goal.returns-clause-barrier
returns-clause-barrier c = barriers
