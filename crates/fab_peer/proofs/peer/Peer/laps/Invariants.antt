use Rattle.std.proofs.Common.{◌≡◌, ◌<◌, false, None}
use Rattle.fab_model.specs.Peers.{do_next}
use Rattle.fab_peer.specs.Laps.{Laps}
use Rattle.fab_peer.specs.Turns.{Gone, actor_of, told}
use Rattle.fab_peer.proofs.peer.Peer.laps.Given as goal

abbrev pub invariant-loop-round : goal.invariant-loop-round
invariant-loop-round g l =
    let seen = g.E.Sees.seen in
    record {
      laps : Laps g.E.Sees.fixed l.round (told seen l.fn.self) (told seen l.self);
      looked : 0 < l.round → 0 < l.looks;
      gone : Gone (told seen l.fn.self) (told seen l.self) l.moved;
      held : l.last ≡ false → do_next (actor_of (told seen l.self)) ≡ None;
    }
