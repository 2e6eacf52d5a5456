use Rattle.std.proofs.Common.{arith}
use Rattle.fab_rx.proofs.Tables.{few_ids}
use Rattle.fab_rx.proofs.table.Table.with_room.Goals as goal

pub returns-clause-few : goal.returns-clause-few
returns-clause-few g c = few_ids c.in_ok-slab.slab (omega (arith, c.if-capacity-gt-MOST_IDS.false, c.capacity.ensures.value))
