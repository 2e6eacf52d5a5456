use Rattle.fab_workload_laws.proofs.Elements.{elements_folded}
use Rattle.fab_workload_laws.proofs.coll_laws.law_elements.Goals as goal

pub returns : goal.returns
returns c = elements_folded
