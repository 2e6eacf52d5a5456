use Rattle.std.proofs.Common.{◌∙◌, sym, subst}
use Rattle.std.specs.Prelude.{IsSome}
use Rattle.fab_rx.specs.Table.{Cells, at}
use Rattle.fab_rx.proofs.Tables.{cells_replaced, table_at}
use Rattle.fab_rx.proofs.table.Table.set.Goals as goal

pub remove-requires : goal.remove-requires
remove-requires g c =
    let there = subst (λ (t : Cells _). IsSome (at t c.args.id)) (sym c.self.view_is) c.requires in
    subst (λ o. IsSome o) (table_at c.self.inside.slab c.self.invariant c.args.id) there

pub returns-clause-cells : goal.returns-clause-cells
returns-clause-cells g c =
    rw (← c.self.view_is)
    (cells_replaced c.self.inside.slab c.remove.new.self c.insert_reserved.new.self c.args.id c.insert_reserved.result c.remove.result c.args.value c.self.invariant c.remove.ensures.value c.remove.ensures.updates c.remove.ensures.capacity
    (c.insert_reserved.ensures.key ∙ c.remove.ensures.key_is_next) c.insert_reserved.ensures.updates c.insert_reserved.ensures.capacity)
