use Rattle.fab_link.proofs.Joining.{joined-prefix}
use Rattle.fab_link.proofs.laws.law_prefix_joins.Goals as goal

pub returns : goal.returns
returns c = joined-prefix
