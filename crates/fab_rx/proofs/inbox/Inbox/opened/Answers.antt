use Rattle.fab_rx.proofs.Opened.{are_opened}
use Rattle.fab_rx.proofs.inbox.Inbox.opened.Goals as goal

pub returns : goal.returns
returns g c = rw (← c.self.view_is) (are_opened _ _ _ _ _ _ _ c.self.invariant.kept c.self.invariant.numbers _ c.self.invariant.shared)
