-- The law is one of lists of completions.
use Rattle.fab_collectives.proofs.Offered.{each_is_offered}
use Rattle.fab_collectives.proofs.laws.law_offered.Goals as goal

pub returns : goal.returns
returns c = record { offered = each_is_offered }
