use Rattle.std.proofs.Common.{◌≡◌, ℕ, [], None, refl, sym, subst}
use Rattle.fab_face.specs.Held.{Held, IsPledged, due}
use Rattle.fab_face.proofs.Repaid.{nothing_due, nothing_pledged}
use Rattle.fab_finish.specs.Joined.{start}
use Rattle.fab_finish.proofs.Starting.{same_at}
use Rattle.fab_rounds_tests.proofs.opening.open_one.Goals as goal

pub start-requires-clause-multis : goal.start-requires-clause-multis
start-requires-clause-multis g c = subst (λ (h : Held). h.multis ≡ []) (sym c.requires.start) refl

pub start-requires-clause-unread : goal.start-requires-clause-unread
start-requires-clause-unread g c = subst (λ (h : Held). h.state.cq.taken_out ≡ 0) (sym c.requires.start) refl

pub start-requires-clause-none_due : goal.start-requires-clause-none_due
start-requires-clause-none_due g c =
    let conf = c.args.conf.now in
    subst (λ (h : Held). (d op : ℕ) → due h d op ≡ 0) (sym c.requires.start) (nothing_due (start conf) (λ d. same_at conf.peers d []) (λ d. same_at conf.peers d []) refl refl)

pub start-requires-clause-pledged : goal.start-requires-clause-pledged
start-requires-clause-pledged g c = subst (λ (h : Held). IsPledged h) (sym c.requires.start) (nothing_pledged (start c.args.conf.now) (λ s. same_at c.args.conf.now.peers s None) refl refl)
