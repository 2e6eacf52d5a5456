use Rattle.std.proofs.Common.{◌≡◌, None, subst}
use Rattle.std.specs.Prelude.{IfSome, IfNone}
use Rattle.fab_model.specs.State.{Completions}
use Rattle.fab_model.specs.Peers.{unread}
use Rattle.fab_cq.proofs.Unread.{lent_is_next, nothing_is_next}
use Rattle.fab_cq.specs.Queues.{IsNext}
use Rattle.fab_cq.proofs.queue.Queue.first.Goals as goal

pub returns-clause-some : goal.returns-clause-some
returns-clause-some c =
    let P : Completions → Type 0 = λ cq. IfSome c.front.result (λ entry. IsNext entry.now cq) in
    subst P c.self.view_is (lent_is_next c.self.invariant c.front.result c.front.ensures.item)

pub returns-clause-none : goal.returns-clause-none
returns-clause-none c =
    let P : Completions → Type 0 = λ cq. IfNone c.front.result (unread cq ≡ None) in
    subst P c.self.view_is (nothing_is_next c.self.invariant c.front.result c.front.ensures.item)
