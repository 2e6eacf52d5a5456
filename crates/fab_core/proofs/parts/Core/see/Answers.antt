use Rattle.fab_core.proofs.Posting.{looked_lent}
use Rattle.std.proofs.Common.{◌∙◌, refl, sym, ap, subst}
use Rattle.fab_model.specs.State.{Completions}
use Rattle.fab_core.specs.Parts.{Parts}
use Rattle.fab_core.specs.Requests.{IsServing}
use Rattle.fab_core.proofs.Aside.{begun_looked, look_room, look_together, most_looked, most_parted_by}
use Rattle.fab_core.proofs.parts.Core.see.Goals as goal

pub part_by-requires : goal.part_by-requires
part_by-requires g c =
    let p : Parts = record { caps = c.self.inside.caps; selective = c.self.inside.selective; most_message = c.self.inside.most_message; av = c.self.inside.av; rx = c.self.inside.rx; tx = c.self.inside.tx; target = c.self.inside.target; cq = c.self.inside.cq; counters = c.self.inside.counters; calls = c.self.inside.calls; multis = c.self.inside.multis } in
    record { room = λ discards. look_room p c.self.invariant.2 c.known.ensures c.known-2.ensures c.args.want.now c.meet-met.result c.meet-met.ensures.met }

pub invariant_of-self : goal.invariant_of-self
invariant_of-self g c =
    let p : Parts = record { caps = c.self.inside.caps; selective = c.self.inside.selective; most_message = c.self.inside.most_message; av = c.self.inside.av; rx = c.self.inside.rx; tx = c.self.inside.tx; target = c.self.inside.target; cq = c.self.inside.cq; counters = c.self.inside.counters; calls = c.self.inside.calls; multis = c.self.inside.multis } in
    rw (c.meet-met.ensures.new, c.part_by.ensures, c.meet-met.ensures.met, c.call.ensures) (c.self.invariant.0 ∙ sym (most_parted_by _ _ c.self.inside.tx), c.self.invariant.1 ∙ sym (most_looked c.args.how c.args.want.now c.args.ctx c.self.inside.rx), look_together p c.self.invariant.2 c.known.ensures c.known-2.ensures c.args.want.now c.args.how c.args.ctx _ (ap (λ (cq : Completions). cq.size) c.write.ensures.written) refl refl refl refl, subst (λ b. IsServing b c.self.inside.target) (sym (begun_looked c.args.how c.args.want.now c.args.ctx c.self.inside.rx)) c.self.invariant.3, rw (c.write.ensures.written, c.told.ensures, c.meet-met.ensures.met, c.of-about.ensures) (looked_lent p c.self.invariant.4 c.args.how c.args.want.now c.args.ctx), rw c.write.ensures.written c.self.invariant.5)
