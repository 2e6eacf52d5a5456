use Rattle.fab_merging.proofs.Reaching.{threads_reach, threads_join}
use Rattle.fab_merging.proofs.law_threads.Goals as goal

pub returns-clause-reached : goal.returns-clause-reached
returns-clause-reached c = threads_reach

pub returns-clause-joined : goal.returns-clause-joined
returns-clause-joined c = threads_join
