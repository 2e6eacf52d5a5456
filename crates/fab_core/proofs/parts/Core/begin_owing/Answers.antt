use Rattle.fab_core.proofs.Lasting.{arrives_lent}
use Rattle.std.proofs.Common.{◌≡◌, ◌∙◌, ◌<◌, length, sym, subst}
use Rattle.fab_rx.specs.Arriving.{bare, begun_of}
use Rattle.fab_core.specs.Parts.{Parts}
use Rattle.fab_core.specs.Requests.{IsAwaited}
use Rattle.fab_core.proofs.Beginning.{arrives_roomed}
use Rattle.fab_core.proofs.parts.Core.begin_owing.Goals as goal

pub invariant_of-self-else-is_err : goal.invariant_of-self-else-is_err
invariant_of-self-else-is_err g c =
    let within : c.args.source < length c.self.inside.rx.begun = subst (λ (p : Parts). c.args.source < length p.rx.begun) (sym c.self.view_is) c.requires.source in
    let nothing = subst (λ (p : Parts). begun_of p.rx c.args.source ≡ _) (sym c.self.view_is) c.requires.nothing in
    let awaited = subst (λ (p : Parts). IsAwaited p.target c.args.source (bare c.args.head.now)) (sym c.self.view_is) c.requires.awaited in
    let arrived = arrives_roomed _ c.self.invariant.2 c.known.ensures c.args.source c.args.head.now within nothing c.arrive-arrived.result c.arrive-arrived.new.self c.arrive-arrived.ensures.ok c.arrive-arrived.ensures.err
    c.make_room.new.self c.in_ok-make_room.ensures.ok (sym c.is_err.ensures.value ∙ c.if-is_err.false) c.requires.asks c.known-2.ensures.rooms c.self.inside.most_tx c.self.inside.most_rx c.self.invariant.0 c.self.invariant.1 c.self.inside.target c.self.invariant.3 awaited in
    (arrived.0, arrived.1, arrived.2, arrived.3, rw c.in_ok-make_room.ensures.ok (arrives_lent (record { caps = c.self.inside.caps; selective = c.self.inside.selective; most_message = c.self.inside.most_message; av = c.self.inside.av; rx = c.self.inside.rx; tx = c.self.inside.tx; target = c.self.inside.target; cq = c.self.inside.cq; counters = c.self.inside.counters; calls = c.self.inside.calls; multis = c.self.inside.multis }) c.self.invariant.4 c.opened.ensures c.self.invariant.2.earlier c.args.source c.args.head.now c.arrive-arrived.result c.arrive-arrived.new.self c.arrive-arrived.ensures.ok c.arrive-arrived.ensures.err), c.self.invariant.5)
