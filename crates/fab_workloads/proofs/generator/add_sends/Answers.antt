use Rattle.std.proofs.Common.{ap, ap₂, sym, ◌++◌, ◌+◌, ◌∙◌, ◌≡◌}
use Rattle.fab_workloads.specs.Generator.{drawn, next_drawn, send_of}
use Rattle.fab_workloads.proofs.Joined.{drawn_more, joined_after}
use Rattle.fab_workloads.proofs.generator.add_sends.Goals as goal

pub loop-m-preserved : goal.loop-m-preserved
loop-m-preserved c =
    let m = c.loop-m.m in
    let x : c.next-drawn.result.x ≡ drawn c.args.number (m + 1) = c.next-drawn.ensures ∙ ap next_drawn c.loop-m.invariant.0 ∙ sym (drawn_more c.args.number m) in
    let ctx = ap (λ k. k + 1) c.from.ensures in (
      x,
      joined_after m (λ m. send_of c.args.peers c.args.p m (drawn c.args.number m)) c.args.ops.now.items c.loop-m.ops.items _
          (c.in_ok-add_send.ensures ∙ ap₂ (λ k y. c.loop-m.ops.items ++ send_of c.args.peers c.args.p k y) ctx x) c.loop-m.invariant.1,
    )
