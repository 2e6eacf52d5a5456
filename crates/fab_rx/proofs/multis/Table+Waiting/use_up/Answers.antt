use Rattle.std.proofs.Common.{◌≡◌, ◌∙◌, ℕ, true, false, Option, None, Some, refl, sym, ap, set, subst}
use Rattle.std.specs.Prelude.{IsSome, IsSomeAnd}
use Rattle.std.specs.Option.{option_map}
use Rattle.fab_rx.specs.declared.stored.Waiting.{Waiting}
use Rattle.fab_rx.specs.Table.{Cells, at, table_of}
use Rattle.fab_rx.specs.Sharing.{IsUsable, is_spent, left_by, used_up_by}
use Rattle.fab_rx.proofs.Tables.{cells_replaced, some_and, table_at}
use Rattle.fab_rx.proofs.multis.Table+Waiting.use_up.Goals as goal
use Rattle.fab_rx.proofs.multis.Table+Waiting.use_up.Goals.{then-is_spent, else-is_spent}

pub remove-requires : goal.remove-requires
remove-requires c =
    let there = subst (λ (t : Cells Waiting). IsSomeAnd (at t c.args.id) IsUsable) (sym c.self.view_is) c.requires.usable in
    subst (λ (o : Option Waiting). IsSome o) (table_at c.self.inside.slab c.self.invariant c.args.id) (some_and IsUsable (at (table_of c.self.inside.slab) c.args.id) there)

pub used_up-waiting-requires : goal.used_up-waiting-requires
used_up-waiting-requires c =
    let there = subst (λ (t : Cells Waiting). IsSomeAnd (at t c.args.id) IsUsable) (sym c.self.view_is) c.requires.usable in
    record { usable = subst (λ (o : Option Waiting). IsSomeAnd o IsUsable) (table_at c.self.inside.slab c.self.invariant c.args.id ∙ c.remove.ensures.value) there }

pub returns-clause-cells : goal.returns-clause-cells
returns-clause-cells c =
    let s = c.self.inside.slab in
    let is = table_at s c.self.invariant c.args.id ∙ c.remove.ensures.value in
    rw (← c.self.view_is)
    (cells_replaced s c.remove.new.self c.insert_reserved.new.self c.args.id c.insert_reserved.result c.remove.result c.used_up-waiting.result c.self.invariant c.remove.ensures.value c.remove.ensures.updates c.remove.ensures.capacity
    (c.insert_reserved.ensures.key ∙ c.remove.ensures.key_is_next) c.insert_reserved.ensures.updates c.insert_reserved.ensures.capacity
    ∙ ap (λ (w : Waiting). set (table_of s).cells c.args.id (Some w)) c.used_up-waiting.ensures
    ∙ ap (λ (o : Option Waiting). set (table_of s).cells c.args.id (option_map (used_up_by c.args.total) o)) (sym is))

spent : (total : ℕ) (w : Waiting) → is_spent (used_up_by total w) ≡ true → left_by total (Some w) ≡ Some w.seat.ctx
spent total w e = rw (e, left_by) refl

unspent : (total : ℕ) (w : Waiting) → is_spent (used_up_by total w) ≡ false → left_by total (Some w) ≡ None
unspent total w e = rw (e, left_by) refl

pub returns-clause-left : goal.returns-clause-left
returns-clause-left c =
    let is = table_at c.self.inside.slab c.self.invariant c.args.id ∙ c.remove.ensures.value in
    let told = ap is_spent (sym c.used_up-waiting.ensures) ∙ sym c.is_spent.ensures in
    rw (← c.self.view_is, is)
    (elim c.if-is_spent.branch [
      | then-is_spent w ↦ w.left-is ∙ ap (λ (x : Waiting). Some x.seat.ctx) c.used_up-waiting.ensures ∙ sym (spent c.args.total c.remove.result (told ∙ w.if-is_spent.true))
      | else-is_spent w ↦ w.left-is ∙ sym (unspent c.args.total c.remove.result (told ∙ w.if-is_spent.false))
    ])
