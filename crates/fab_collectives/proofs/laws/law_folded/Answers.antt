-- The law is one of lists of shares and messages.
use Rattle.fab_collectives.proofs.Folded.{each_is_folded}
use Rattle.fab_collectives.proofs.Relayed.{each_is_the_roots}
use Rattle.fab_collectives.proofs.laws.law_folded.Goals as goal

pub returns : goal.returns
returns c = record { folded = each_is_folded; relayed = each_is_the_roots }
