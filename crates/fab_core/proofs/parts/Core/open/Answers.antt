use Rattle.std.proofs.Common.{◌∙◌, refl, sym}
use Rattle.fab_rx.specs.Arriving.{IsArriving, opening}
use Rattle.fab_rx.specs.Opened.{AreOpened}
use Rattle.fab_core.specs.Parts.{Parts}
use Rattle.fab_core.specs.Multis.{shared_now}
use Rattle.fab_core.proofs.Few.{room_for_one}
use Rattle.fab_core.proofs.Posting.{shared_lent}
use Rattle.fab_core.proofs.Sharing.{shared_together}
use Rattle.fab_core.proofs.parts.Core.open.Goals as goal

pub enlist-requires : goal.enlist-requires
enlist-requires g c =
    let p : Parts = record { caps = c.self.inside.caps; selective = c.self.inside.selective; most_message = c.self.inside.most_message; av = c.self.inside.av; rx = c.self.inside.rx; tx = c.self.inside.tx; target = c.self.inside.target; cq = c.self.inside.cq; counters = c.self.inside.counters; calls = c.self.inside.calls; multis = c.self.inside.multis } in
    record { room = room_for_one p c.self.invariant.4 c.self.inside.most_rx c.self.inside.av.peers c.self.invariant.5 c.self.invariant.1 (c.self.invariant.2.addresses ∙ sym c.self.invariant.2.peers) c.opened.ensures.room c.known-2.ensures.unread }

pub invariant_of-self : goal.invariant_of-self
invariant_of-self g c =
    let p : Parts = record { caps = c.self.inside.caps; selective = c.self.inside.selective; most_message = c.self.inside.most_message; av = c.self.inside.av; rx = c.self.inside.rx; tx = c.self.inside.tx; target = c.self.inside.target; cq = c.self.inside.cq; counters = c.self.inside.counters; calls = c.self.inside.calls; multis = c.self.inside.multis } in
    let together = shared_together p c.args.ask.now c.args.buf c.post_multi-id.result c.self.invariant.2 in
    let now : IsArriving (opening c.post_multi-id.result (shared_now c.args.ask.now c.args.buf p) p.rx) = rw (c.post_multi-id.ensures, c.of-about.ensures, c.want-want.ensures, ← c.self.view_is) at c.known-3.ensures in
    let is_now : AreOpened (opening c.post_multi-id.result (shared_now c.args.ask.now c.args.buf p) p.rx) = rw (c.post_multi-id.ensures, c.of-about.ensures, c.want-want.ensures, ← c.self.view_is) at c.opened-2.ensures in
    rw (c.post_multi-id.ensures, c.call.ensures, c.enlist.ensures, c.of-about.ensures, c.want-want.ensures, ← c.self.view_is) (c.self.invariant.0, c.self.invariant.1, together, c.self.invariant.3, shared_lent p c.self.invariant.4 c.self.invariant.2.earlier c.post_multi-id.result c.args.ask.now c.args.buf now is_now c.opened.ensures, c.self.invariant.5)

pub returns : goal.returns
returns g c = (c.post_multi-id.result, rw (c.post_multi-id.ensures, c.call.ensures, c.enlist.ensures, c.of-about.ensures, c.want-want.ensures, ← c.self.view_is) refl)
