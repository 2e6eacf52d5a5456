use Rattle.std.proofs.Common.{◌≡◌, ◌+◌, ◌<◌, length, subst, sym, ◌∙◌}
use Rattle.std.proofs.lemmas.List.{get_or_default}
use Rattle.fab_queue.specs.Ports.{Queued, clock_of}
use Rattle.fab_queue.proofs.Told.{posts}
use Rattle.fab_queue.proofs.port.QueuePort.send.Goals as goal

pub invariant_of-self-2 : goal.invariant_of-self-2
invariant_of-self-2 g c =
    let p : Queued = record { number = c.self.inside.me; outs = c.self.inside.outs.items; ins = c.self.inside.ins.items; moves = c.self.inside.moves } in
    let near : c.args.dest < length p.outs = subst (λ (q : Queued). c.args.dest < length q.outs) (sym c.self.view_is) c.requires.below in
    let next : c.args.sent.number ≡ clock_of p + 1 = subst (λ (q : Queued). c.args.sent.number ≡ clock_of q + 1) (sym c.self.view_is) c.requires.next in
    let ok = c.post.ensures.ok in
    let all = posts c.self.inside.clock p c.args.dest c.args.sent c.index_mut.result.now c.post.new.self c.self.invariant near next
    (c.index_mut.ensures.value ∙ get_or_default c.self.inside.outs.items c.args.dest _ _ near) (rw c.in-Ok.is at ok) in
    rw c.note.ensures all
