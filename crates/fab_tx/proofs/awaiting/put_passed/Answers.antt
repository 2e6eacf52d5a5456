use Rattle.std.proofs.Common.{◌∙◌}
use Rattle.fab_tx.proofs.awaiting.put_passed.Goals as goal

pub loop-preserved : goal.loop-preserved
loop-preserved c = record {
  still = λ es is. c.put_front.ensures.still es (c.loop.invariant.still es is);
  capacity = c.put_front.ensures.capacity ∙ c.loop.invariant.capacity;
}
