-- The law is one of runs of any number of ranks.
use Rattle.fab_topology.proofs.Sending.{all_begun}
use Rattle.fab_topology.proofs.laws.law_begun.Goals as goal

pub returns : goal.returns
returns c = record { begun = all_begun }
