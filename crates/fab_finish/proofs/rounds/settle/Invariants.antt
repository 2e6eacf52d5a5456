use Rattle.fab_laws.specs.Work.{work}
use Rattle.fab_finish.specs.Joined.{IsJoined, GoesOn, actors}
use Rattle.fab_finish.specs.Wanting.{Grows}
use Rattle.fab_finish.proofs.rounds.settle.Given as goal

abbrev pub invariant-steps : goal.invariant-steps
invariant-steps g l = record {
  joined : IsJoined l.peers;
  grows : Grows l.fn.peers l.peers;
  on : GoesOn l.fn.peers l.peers;
}

abbrev pub decreases-steps : goal.decreases-steps
decreases-steps g l = work (actors l.peers)
