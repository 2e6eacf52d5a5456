use Rattle.fab_ep.specs.Value.{seen}
use Rattle.fab_ep.proofs.Registered.{close_leaves, tied_if}
use Rattle.fab_ep.proofs.regions.EndpointRegions.close_region.Goals as goal

pub invariant_of-self : goal.invariant_of-self
invariant_of-self g c = (
  c.self.invariant.0,
  tied_if _ _ (seen g.P.Port (record { port = c.self.inside.port; held = g.C.Machine.held c.self.inside.core; log = c.self.inside.log.items; log_size = c.self.inside.log_size; pushed = c.self.inside.pushed; next = c.self.inside.next })) _
      c.close_region.result (close_leaves _) c.close_region.ensures.ok c.close_region.ensures.stays c.self.invariant.1,
  c.self.invariant.2,
)
