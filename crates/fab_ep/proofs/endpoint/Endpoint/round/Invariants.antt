use Rattle.std.proofs.Common.{◌≡◌, ◌<◌, ◌≤◌, ◌+◌, false}
use Rattle.fab_ep.specs.Value.{seen}
use Rattle.fab_face.specs.Circle.{round}
use Rattle.fab_ep.specs.Tries.{Turning}
use Rattle.fab_ep.proofs.endpoint.Endpoint.round.Given as goal

abbrev pub invariant-loop-step : goal.invariant-loop-step
invariant-loop-step g l = record {
  turning : Turning g.P.Port.FIXED (seen g.P.Port l.fn.self) (seen g.P.Port l.self) l.turn.taken l.turn.posted l.turn.held l.fn.self.next l.self.next l._step;
  long : l.turn.short ≡ false;
  most : l.turn.taken + l.turn.posted ≤ l.left;
  some : 0 < l.left;
  lanes : l.lanes ≡ round (g.P.Port.peer_count l.fn.self.port);
  pushed : l.self.pushed ≡ l.fn.self.pushed;
  left : l.left ≡ l.fn.left;
}
