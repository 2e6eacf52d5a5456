use Rattle.std.proofs.Common.{◌≡◌, ◌∙◌, sym, subst}
use Rattle.std.specs.Prelude.{IfNone}
use Rattle.fab_rx.proofs.Tables.{cells_emptied, table_at}
use Rattle.fab_rx.proofs.table.Table.take.Goals as goal

pub returns-clause-value : goal.returns-clause-value
returns-clause-value g c = rw (← c.self.view_is) (c.try_remove.ensures.value ∙ sym (table_at c.self.inside.slab c.self.invariant c.args.id))

pub returns-clause-cells : goal.returns-clause-cells
returns-clause-cells g c =
    rw (← c.self.view_is)
    (cells_emptied c.self.inside.slab c.try_remove.new.self c.args.id c.self.invariant c.try_remove.ensures.updates c.try_remove.ensures.capacity
    (λ none. subst (λ o. IfNone o (c.try_remove.new.self ≡ c.self.inside.slab)) (c.try_remove.ensures.value ∙ none) c.try_remove.ensures.absent))
