use Rattle.fab_rx.proofs.Known.{full_is, posted_count}
use Rattle.fab_rx.proofs.inbox.Inbox.is_full.Goals as goal

pub returns : goal.returns
returns g c =
    rw (← c.self.view_is) (full_is c.is_full.result _ _ _ _ c.is_full.ensures.full c.is_full.ensures.within c.self.invariant.kept.most (posted_count _ _ _ _ _ _ _ c.self.invariant.kept))
