use Rattle.std.proofs.Common.{◌∙◌, sym}
use Rattle.fab_rx.proofs.Tables.{table_at}
use Rattle.fab_rx.proofs.table.Table.get.Goals as goal

pub returns : goal.returns
returns g c = rw (← c.self.view_is) (c.get.ensures ∙ sym (table_at c.self.inside.slab c.self.invariant c.args.id))
