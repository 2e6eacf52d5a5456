use Rattle.std.proofs.Common.{ap}
use Rattle.fab_ep.specs.Value.{seen}
use Rattle.fab_peer.specs.Turns.{told}
use Rattle.fab_rounds.specs.Rounds.{between}
use Rattle.fab_rounds.proofs.rounds.turn.Goals as goal

pub returns-clause-rounded : goal.returns-clause-rounded
returns-clause-rounded g c = let turn = c.quantum-kept.ensures in record {
  turned = turn.turned;
  still = turn.still;
  stays = turn.stays;
  left = turn.left;
  spoiled = λ was. ap (λ r. between (told (seen g.P.Port) r.peer) r.moved r.failed) (turn.failed was);
}

pub returns-clause-risen : goal.returns-clause-risen
returns-clause-risen g c = let turn = c.quantum-kept.ensures in record { grown = turn.grown; risen = turn.risen }
