use Rattle.std.proofs.Common.{◌≡◌, List, length, subst, arith}
use Rattle.std.specs.Prelude.{Vec}
use Rattle.std.specs.declared.alloc.Global.{Global}
use Rattle.fab_base.proofs.Lists.{written_back}
use Rattle.fab_queue.specs.Ends.{In}
use Rattle.fab_queue.specs.Laid.{AreLaidFrom}
use Rattle.fab_queue.proofs.Growing.{laid_peer}
use Rattle.fab_queue.proofs.laying.lay_all.Goals as goal

pub loop-peer-preserved : goal.loop-peer-preserved
loop-peer-preserved c =
    let old = c.loop-peer.ins.items in
    let new = c.lay_from.new.ins in
    let more = subst (λ (z : List (Vec In Global)). AreLaidFrom c.args.room z new c.in_ok-own.own.items (length z)) c.as_mut_slice.ensures.value c.in_ok-own.ensures in
    let len : c.loop-peer.ins.len ≡ length old = (let o = c.loop-peer.ins.ok in omega arith) in
    rw (c.in_ok-push.ensures.items, written_back old new c.loop-peer.ins.len more.count len) (laid_peer c.args.room c.args.peers c.loop-peer._peer c.loop-peer.outs.items old new c.in_ok-own.own c.loop-peer.invariant more)
