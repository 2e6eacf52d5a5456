use Rattle.std.proofs.Common.{length, ap, arith}
use Rattle.fab_rx.proofs.Completing.{completed_well, completed_short}
use Rattle.fab_rx.proofs.filling.complete.Goals as goal

pub returns-then-head-space : goal.returns-then-head-space
returns-then-head-space c r bytes single is =
    let len = ap length c.as_slice-space.ensures in
    completed_well r single c.args.source c.args.head.now bytes c.args.seat c.tag_of-tag.result is c.tag_of-tag.ensures (omega arith)

pub returns : goal.returns
returns c r bytes single is =
    completed_short r single c.args.source c.args.head.now bytes c.args.seat c.tag_of-tag.result is c.tag_of-tag.ensures _ (ap length c.as_slice-space.ensures) (omega arith)
