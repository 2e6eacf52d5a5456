use Rattle.std.proofs.Common.{arith}
use Rattle.fabric_uses.proofs.ending.send_counted.Goals as goal

pub returns : goal.returns
returns g c = λ t. let past = c.counts_past.ensures t in omega (arith, past, c.cntr_read-before.ensures)
