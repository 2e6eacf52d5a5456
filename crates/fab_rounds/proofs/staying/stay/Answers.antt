use Rattle.fab_ep.specs.Value.{seen}
use Rattle.fab_peer.specs.Turns.{told}
use Rattle.fab_rounds.specs.Rounds.{between}
use Rattle.fab_rounds.proofs.Making.{none_ran}
use Rattle.fab_rounds.proofs.staying.stay.Goals as goal

pub returns-then-count-eq0-clause-ran : goal.returns-then-count-eq0-clause-ran
returns-then-count-eq0-clause-ran g c = none_ran (λ p. between (told (seen g.P.Port) p.peer) p.moved p.failed) c.args.peers.now

pub returns-in_default-clause-ran : goal.returns-in_default-clause-ran
returns-in_default-clause-ran g c = none_ran (λ p. between (told (seen g.P.Port) p.peer) p.moved p.failed) c.args.peers.now
