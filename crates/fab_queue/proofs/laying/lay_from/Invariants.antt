use Rattle.fab_queue.specs.Laid.{AreLaidFrom}
use Rattle.fab_queue.proofs.laying.lay_from.Given as goal

abbrev pub invariant-loop-dest : goal.invariant-loop-dest
invariant-loop-dest l = AreLaidFrom l.room l.fn.ins l.ins l.outs.items l.dest
