use Rattle.std.proofs.Common.{◌≡◌, ◌∙◌, ap, sym, subst}
use Rattle.fab_face.specs.Held.{Held}
use Rattle.fab_ring.specs.declared.port.RingPort.{RingPort}
use Rattle.fab_merging.specs.Pasts.{past_of}
use Rattle.fab_rounds.specs.Phases.{past_at, past_with}
use Rattle.fab_rounds.proofs.crossing.part.Goals as goal

pub returns-clause-past : goal.returns-clause-past
returns-clause-past g c =
    let parted = c.unseat-peer in
    let closed = c.close-port in
    let unseated : past_at c.into_peer-peer.result ≡ past_with parted.result.1.held parted.result.0 parted.result.1.port = ap past_of parted.ensures.told in
    subst (λ (p : RingPort). past_with (g.C.Machine.held closed.result.core) parted.result.0 p ≡ past_at c.args.runner.peer) (sym closed.ensures.port)
    (subst (λ (h : Held). past_with h parted.result.0 parted.result.1.port ≡ past_at c.args.runner.peer) (sym closed.ensures.held)
    (sym unseated ∙ ap past_at c.into_peer-peer.ensures.peer))
