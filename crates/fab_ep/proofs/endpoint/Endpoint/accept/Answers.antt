use Rattle.std.proofs.Common.{refl}
use Rattle.fab_ep.specs.Value.{seen}
use Rattle.fab_ep.proofs.Accepting.{tied_accepted}
use Rattle.fab_ep.proofs.endpoint.Endpoint.accept.Goals as goal

pub invariant_of-self : goal.invariant_of-self
invariant_of-self g c = (
  c.self.invariant.0,
  tied_accepted (seen g.P.Port (record { port = c.self.inside.port; held = g.C.Machine.held c.self.inside.core; log = c.self.inside.log.items; log_size = c.self.inside.log_size; pushed = c.self.inside.pushed; next = c.self.inside.next })) _ _
      c.self.invariant.1 c.known.ensures c.send.ensures refl refl refl,
  c.self.invariant.2,
)
