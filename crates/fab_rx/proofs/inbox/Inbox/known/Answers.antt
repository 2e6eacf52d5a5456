use Rattle.fab_rx.proofs.Known.{is_arriving}
use Rattle.fab_rx.proofs.inbox.Inbox.known.Goals as goal

pub returns : goal.returns
returns g c = rw (← c.self.view_is) (is_arriving _ _ _ _ _ _ _ c.self.invariant.kept _ _ c.self.invariant.aside _ c.self.invariant.shared)
