use Rattle.fab_ep.specs.Value.{seen}
use Rattle.fab_ep.proofs.Kept.{if_inserts, tied_addressed}
use Rattle.fab_ep.proofs.keeping.EndpointAddresses.insert.Goals as goal

pub invariant_of-self : goal.invariant_of-self
invariant_of-self g c = (
  c.self.invariant.0,
  tied_addressed (seen g.P.Port (record { port = c.self.inside.port; held = g.C.Machine.held c.self.inside.core; log = c.self.inside.log.items; log_size = c.self.inside.log_size; pushed = c.self.inside.pushed; next = c.self.inside.next }))
      _ c.insert.ensures.changed c.self.invariant.1,
  c.self.invariant.2,
)

pub returns-clause-ok : goal.returns-clause-ok
returns-clause-ok g c = rw (← c.self.view_is) (if_inserts _ _ _ c.insert.result c.insert.ensures.changed c.insert.ensures.answers c.insert.ensures.count)
