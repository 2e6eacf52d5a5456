use Rattle.fab_core.proofs.Posting.{dropped_lent}
use Rattle.std.proofs.Common.{◌∙◌, refl, sym, ap}
use Rattle.fab_model.specs.State.{Completions}
use Rattle.fab_core.specs.Parts.{Parts}
use Rattle.fab_core.proofs.Aside.{drop_room, drop_together, most_parted}
use Rattle.fab_core.proofs.parts.Core.let_fall.Goals as goal

pub part-requires : goal.part-requires
part-requires g c =
    let p : Parts = record { caps = c.self.inside.caps; selective = c.self.inside.selective; most_message = c.self.inside.most_message; av = c.self.inside.av; rx = c.self.inside.rx; tx = c.self.inside.tx; target = c.self.inside.target; cq = c.self.inside.cq; counters = c.self.inside.counters; calls = c.self.inside.calls; multis = c.self.inside.multis } in
    record { room = drop_room p c.self.invariant.2 c.known.ensures c.known-2.ensures c.args.ctx c.drop_claimed-met.result c.drop_claimed-met.ensures.seen }

pub invariant_of-self : goal.invariant_of-self
invariant_of-self g c =
    let p : Parts = record { caps = c.self.inside.caps; selective = c.self.inside.selective; most_message = c.self.inside.most_message; av = c.self.inside.av; rx = c.self.inside.rx; tx = c.self.inside.tx; target = c.self.inside.target; cq = c.self.inside.cq; counters = c.self.inside.counters; calls = c.self.inside.calls; multis = c.self.inside.multis } in
    rw (c.drop_claimed-met.ensures.new, c.part.ensures, c.drop_claimed-met.ensures.seen, c.call.ensures) (c.self.invariant.0 ∙ sym (most_parted _ c.self.inside.tx), c.self.invariant.1, drop_together p c.self.invariant.2 c.known.ensures c.known-2.ensures c.args.ctx _ (ap (λ (cq : Completions). cq.size) c.write.ensures.written) refl refl refl refl, c.self.invariant.3, rw (c.write.ensures.written, c.told.ensures, c.drop_claimed-met.ensures.seen, c.of-about.ensures) (dropped_lent p c.self.invariant.4 c.args.ctx), rw c.write.ensures.written c.self.invariant.5)
