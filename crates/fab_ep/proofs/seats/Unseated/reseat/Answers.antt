use Rattle.fab_ep.proofs.Circle.{circle_on}
use Rattle.fab_ep.proofs.Kept.{tied_reseated}
use Rattle.fab_ep.proofs.seats.Unseated.reseat.Goals as goal

pub invariant_of-result : goal.invariant_of-result
invariant_of-result g c =
    let i = c.self.inside in (
      c.self.invariant.0,
      tied_reseated g.P.Port g.Q.Port (record { port = i.port.value; held = g.C.Machine.held i.core; log = i.log.items; log_size = i.log_size; pushed = i.pushed; next = i.next }) c.args.port c.self.invariant.1 (rw (← c.self.view_is) at c.requires.goes_on) (rw (← c.self.view_is) at c.requires.repaid),
      circle_on _ _ i.next (let goes = rw (← c.self.view_is) at c.requires.goes_on in goes.peers) c.self.invariant.2,
    )
