use Rattle.std.proofs.Common.{◌∙◌, Some, length, sym, ap, arith}
use Rattle.fab_rx.specs.Table.{Cells}
use Rattle.fab_rx.proofs.Tables.{cells_long, cells_updated, table_at}
use Rattle.fab_rx.proofs.table.Table.put.Goals as goal

pub overflow_cast-result : goal.overflow_cast-result
overflow_cast-result g c =
    let long = ap (λ (t : Cells _). length t.cells) (sym c.self.view_is) ∙ cells_long c.self.inside.slab in
    omega arith

pub returns-clause-empty : goal.returns-clause-empty
returns-clause-empty g c = rw (← c.self.view_is) (table_at c.self.inside.slab c.self.invariant c.insert_reserved.result ∙ c.insert_reserved.ensures.was_vacant)

pub returns-clause-within : goal.returns-clause-within
returns-clause-within g c =
    let long = ap (λ (t : Cells _). length t.cells) (sym c.self.view_is) ∙ cells_long c.self.inside.slab in
    omega arith

pub returns-clause-cells : goal.returns-clause-cells
returns-clause-cells g c =
    rw (← c.self.view_is) (cells_updated c.self.inside.slab c.insert_reserved.new.self c.insert_reserved.result (Some c.args.value) c.insert_reserved.ensures.updates c.insert_reserved.ensures.capacity (omega arith))
