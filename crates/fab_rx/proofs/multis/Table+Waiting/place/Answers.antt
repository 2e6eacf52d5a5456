use Rattle.std.proofs.Common.{◌∙◌, Option, Some, sym, ap, set, subst}
use Rattle.std.specs.Prelude.{IsSome}
use Rattle.std.specs.Option.{option_map}
use Rattle.fab_rx.specs.declared.stored.Waiting.{Waiting}
use Rattle.fab_rx.specs.Table.{Cells, at, table_of}
use Rattle.fab_rx.specs.Sharing.{placed_in}
use Rattle.fab_rx.proofs.Tables.{cells_replaced, table_at}
use Rattle.fab_rx.proofs.multis.Table+Waiting.place.Goals as goal

pub remove-waiting-requires : goal.remove-waiting-requires
remove-waiting-requires c =
    let there = subst (λ (t : Cells Waiting). IsSome (at t c.args.id)) (sym c.self.view_is) c.requires in
    subst (λ (o : Option Waiting). IsSome o) (table_at c.self.inside.slab c.self.invariant c.args.id) there

pub returns-clause-cells : goal.returns-clause-cells
returns-clause-cells c =
    let s = c.self.inside.slab in
    let is = table_at s c.self.invariant c.args.id ∙ c.remove-waiting.ensures.value in
    rw (← c.self.view_is)
    (cells_replaced s c.remove-waiting.new.self c.insert_reserved.new.self c.args.id c.insert_reserved.result c.remove-waiting.result c.placed.result c.self.invariant c.remove-waiting.ensures.value c.remove-waiting.ensures.updates c.remove-waiting.ensures.capacity
    (c.insert_reserved.ensures.key ∙ c.remove-waiting.ensures.key_is_next) c.insert_reserved.ensures.updates c.insert_reserved.ensures.capacity
    ∙ ap (λ (w : Waiting). set (table_of s).cells c.args.id (Some w)) c.placed.ensures
    ∙ ap (λ (o : Option Waiting). set (table_of s).cells c.args.id (option_map (placed_in c.args.start c.args.bytes.now) o)) (sym is))
