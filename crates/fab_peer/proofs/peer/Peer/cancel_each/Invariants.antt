use Rattle.std.proofs.Common.{length}
use Rattle.fab_peer.specs.Turns.{told, Ended, IsQuiet, IsRead}
use Rattle.fab_peer.proofs.peer.Peer.cancel_each.Given as goal

abbrev pub invariant-receives : goal.invariant-receives
invariant-receives g l =
    let seen = g.E.Sees.seen in
    record {
      ended : Ended (told seen l.fn.self) (told seen l.self);
      quiet : IsQuiet (told seen l.self);
      read : IsRead (seen l.self.endpoint);
    }

abbrev pub decreases-receives : goal.decreases-receives
decreases-receives g l = length (g.E.Sees.seen l.self.endpoint).held.state.rx.posted
