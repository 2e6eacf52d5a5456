use Rattle.std.proofs.Common.{length}
use Rattle.fab_ep.specs.Value.{seen}
use Rattle.fab_ep.specs.Draws.{Drawing}
use Rattle.fab_ep.proofs.endpoint.Endpoint.draw_all.Given as goal

abbrev pub invariant-loop : goal.invariant-loop
invariant-loop g l = Drawing (seen g.P.Port l.fn.self) (seen g.P.Port l.self)

abbrev pub decreases-loop : goal.decreases-loop
decreases-loop g l = length l.self.held.state.rx.unexpected
