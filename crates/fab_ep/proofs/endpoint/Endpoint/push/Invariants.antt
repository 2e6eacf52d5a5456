use Rattle.std.proofs.Common.{◌≡◌}
use Rattle.fab_face.specs.Answers.{HasPlaces}
use Rattle.fab_ep.specs.Value.{seen}
use Rattle.fab_ep.proofs.Staying.{PushingOn}
use Rattle.fab_ep.proofs.endpoint.Endpoint.push.Given as goal

abbrev pub invariant-loop-dest : goal.invariant-loop-dest
invariant-loop-dest g l = record {
  pushing : PushingOn (seen g.P.Port l.fn.self) (seen g.P.Port l.self) l.dest;
  ins : g.P.Port.ins l.self.port ≡ g.P.Port.ins l.fn.self.port;
  next : l.self.next ≡ l.fn.self.next;
  places : HasPlaces (seen g.P.Port l.self);
  peers : l.peers ≡ g.P.Port.peer_count l.self.port;
}
