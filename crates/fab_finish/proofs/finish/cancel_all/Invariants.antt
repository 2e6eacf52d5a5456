use Rattle.std.proofs.Common.{◌≡◌}
use Rattle.std.specs.Prelude.{map}
use Rattle.fab_model.specs.Peers.{facts}
use Rattle.fab_finish.specs.Joined.{Ends, actors}
use Rattle.fab_finish.specs.Rests.{AreCancelled}
use Rattle.fab_finish.specs.Wanting.{Grows}
use Rattle.fab_finish.proofs.finish.cancel_all.Given as goal

abbrev pub invariant-loop-number : goal.invariant-loop-number
invariant-loop-number g l = record {
  ends : Ends l.fn.peers l.peers;
  facts_are : map facts (actors l.peers) ≡ map facts (actors l.fn.peers);
  grows : Grows l.fn.peers l.peers;
  cancelled : AreCancelled l.number l.fn.peers l.peers;
}
