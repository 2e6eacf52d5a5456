use Rattle.std.proofs.Common.{◌≤◌}
use Rattle.fab_laws.specs.Work.{work}
use Rattle.fab_finish.specs.Freight.{freight}
use Rattle.fab_finish.specs.Joined.{IsJoined, GoesOn, actors}
use Rattle.fab_finish.specs.Wanting.{Grows}
use Rattle.fab_finish.proofs.rounds.go_on.Given as goal

abbrev pub invariant-rounds : goal.invariant-rounds
invariant-rounds g l = record {
  joined : IsJoined l.peers;
  grows : Grows l.fn.peers l.peers;
  on : GoesOn l.fn.peers l.peers;
  most : work (actors l.peers) ≤ work (actors l.fn.peers);
}

abbrev pub decreases-rounds : goal.decreases-rounds
decreases-rounds g l = freight l.peers
