use Rattle.fab_link.proofs.Merging.{stamped_merge}
use Rattle.fab_link.proofs.laws.law_stamped.Goals as goal

pub returns : goal.returns
returns c = stamped_merge
