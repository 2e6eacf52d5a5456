use Rattle.std.proofs.Common.{◌≡◌}
use Rattle.fab_ep.specs.Value.{seen}
use Rattle.fab_ep.specs.Tries.{left_for}
use Rattle.fab_ep.proofs.Letting.{Letting}
use Rattle.fab_ep.proofs.endpoint.Endpoint.let_out.Given as goal

abbrev pub invariant-loop : goal.invariant-loop
invariant-loop g l = record {
  letting : Letting (seen g.P.Port l.fn.self) (seen g.P.Port l.self) l.fn.dest;
  ins : g.P.Port.ins l.self.port ≡ g.P.Port.ins l.fn.self.port;
  next : l.self.next ≡ l.fn.self.next;
  dest : l.dest ≡ l.fn.dest;
}

abbrev pub decreases-loop : goal.decreases-loop
decreases-loop g l = left_for l.self.held l.dest
