use Rattle.std.proofs.Common.{◌≡◌}
use Rattle.fab_base.specs.declared.entries.Taken.TheVariants.{Success}
use Rattle.fab_ep.specs.Value.{seen}
use Rattle.fab_ep.proofs.Kept.{tied_popped}
use Rattle.fab_ep.proofs.calls.EndpointProgress.cq_pop.Goals as goal

pub invariant_of-self : goal.invariant_of-self
invariant_of-self g c =
    let i = c.self.inside in (
      c.self.invariant.0,
      tied_popped (λ x w. w.entry ≡ Success x) (seen g.P.Port (record { port = i.port; held = g.C.Machine.held i.core; log = i.log.items; log_size = i.log_size; pushed = i.pushed; next = i.next })) _ c.pop.result c.pop.ensures.ok c.pop.ensures.stays c.self.invariant.1,
      c.self.invariant.2,
    )
