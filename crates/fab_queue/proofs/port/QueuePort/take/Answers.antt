use Rattle.std.proofs.Common.{ℕ, ◌<◌, length, subst, sym, ◌∙◌}
use Rattle.std.proofs.lemmas.List.{get_or_default}
use Rattle.std.specs.Prelude.{IsSome}
use Rattle.fab_queue.specs.Ports.{Queued, in_at}
use Rattle.fab_queue.proofs.Told.{takes}
use Rattle.fab_queue.proofs.port.QueuePort.take.Goals as goal

pub invariant_of-self : goal.invariant_of-self
invariant_of-self g c =
    let p : Queued = record { number = c.self.inside.me; outs = c.self.inside.outs.items; ins = c.self.inside.ins.items; moves = c.self.inside.moves } in
    let below : c.args.src < length p.outs = subst (λ (q : Queued). c.args.src < length q.outs) (sym c.self.view_is) c.requires.below in
    let near : c.args.src < length p.ins = subst (λ (n : ℕ). c.args.src < n) (sym c.self.invariant.1.all_ins) below in
    let lent : IsSome (in_at p c.args.src).lent = subst (λ (q : Queued). IsSome (in_at q c.args.src).lent) (sym c.self.view_is) c.requires.lent in
    let all = takes c.self.inside.clock p c.args.src c.advance-number.result c.index_mut.result.now c.advance-number.new.self c.self.invariant near
    (c.index_mut.ensures.value ∙ get_or_default c.self.inside.ins.items c.args.src _ _ near) lent c.advance-number.ensures in
    rw (c.max-self-inside.ensures, c.note.ensures) all
