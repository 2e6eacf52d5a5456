use Rattle.std.proofs.Common.{◌≡◌, false}
use Rattle.fab_face.specs.Answers.{HasPlaces}
use Rattle.fab_ep.specs.Value.{seen}
use Rattle.fab_link.specs.Meaning.{Others}
use Rattle.fab_ep.specs.Tries.{HeldStays, PushedTo, left_for}
use Rattle.fab_ep.proofs.endpoint.Endpoint.push_to.Given as goal

abbrev pub invariant-loop : goal.invariant-loop
invariant-loop g l = record {
  pushed : PushedTo (seen g.P.Port l.fn.self) (seen g.P.Port l.self) l.fn.dest false;
  places : HasPlaces (seen g.P.Port l.self);
  others : Others l.fn.dest (g.P.Port.outs l.fn.self.port) (g.P.Port.outs l.self.port);
  ins : g.P.Port.ins l.self.port ≡ g.P.Port.ins l.fn.self.port;
  next : l.self.next ≡ l.fn.self.next;
  stays : HeldStays (seen g.P.Port l.fn.self) (seen g.P.Port l.self) l.fn.dest;
  dest : l.dest ≡ l.fn.dest;
}

abbrev pub decreases-loop : goal.decreases-loop
decreases-loop g l = left_for l.self.held l.dest
