use Rattle.fab_ep.specs.Value.{seen}
use Rattle.fab_ep.proofs.Kept.{tied_adding}
use Rattle.fab_ep.proofs.keeping.EndpointCounters.cntr_add.Goals as goal

pub invariant_of-self : goal.invariant_of-self
invariant_of-self g c = (
  c.self.invariant.0,
  tied_adding (seen g.P.Port (record { port = c.self.inside.port; held = g.C.Machine.held c.self.inside.core; log = c.self.inside.log.items; log_size = c.self.inside.log_size; pushed = c.self.inside.pushed; next = c.self.inside.next }))
      c.args.class c.args.n _ c.count_up.ensures c.self.invariant.1,
  c.self.invariant.2,
)
