use Rattle.std.proofs.Common.{List, subst, sym}
use Rattle.fab_ring.specs.declared.port.RingPort.{RingPort}
use Rattle.fab_domain.specs.Domain.{AreLanes}
use Rattle.fab_domain.proofs.Opened.{ready}
use Rattle.fab_domain.proofs.opening.endpoints_that_sleep.Goals as goal

pub open_all-requires-clause-ready : goal.open_all-requires-clause-ready
open_all-requires-clause-ready c = ready c.args.info.now c.in_ok-ports.ports.items c.in_ok-ports.ensures

pub returns-clause-opened : goal.returns-clause-opened
returns-clause-opened c = record {
  lanes = subst (λ (ports : List RingPort). AreLanes c.args.info.now ports) (sym c.in_ok-open_all.ensures.ports) c.in_ok-ports.ensures;
  opened = c.in_ok-open_all.ensures.opened;
}
