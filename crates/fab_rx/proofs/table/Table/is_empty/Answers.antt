use Rattle.std.proofs.Common.{◌∙◌}
use Rattle.fab_rx.proofs.Tables.{empty_is}
use Rattle.fab_rx.proofs.table.Table.is_empty.Goals as goal

pub returns : goal.returns
returns g c = rw (← c.self.view_is) (c.is_empty.ensures ∙ empty_is c.self.inside.slab c.self.invariant)
