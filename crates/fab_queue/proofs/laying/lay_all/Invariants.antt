use Rattle.fab_queue.specs.Laid.{AreLaid}
use Rattle.fab_queue.proofs.laying.lay_all.Given as goal

abbrev pub invariant-loop-peer : goal.invariant-loop-peer
invariant-loop-peer l = AreLaid l.room l.peers l._peer l.outs.items l.ins.items
