use Rattle.fab_link.proofs.Joining.{joined-cut_all}
use Rattle.fab_link.proofs.laws.law_cut_joins.Goals as goal

pub returns : goal.returns
returns c = joined-cut_all
