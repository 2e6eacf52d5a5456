-- The law is proved over any bound script and any order of turns.
use Rattle.fab_laws.proofs.working.Peers.{ends_soon}
use Rattle.fab_laws.proofs.laws.law_ends.Goals as goal

pub returns : goal.returns
returns c = record { soon = ends_soon }
