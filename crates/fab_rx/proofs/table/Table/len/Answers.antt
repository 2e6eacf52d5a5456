use Rattle.fab_rx.proofs.Tables.{counted}
use Rattle.fab_rx.proofs.table.Table.len.Goals as goal

pub returns : goal.returns
returns g c = rw (← c.self.view_is, c.len.ensures) (counted c.self.inside.slab c.self.invariant)
