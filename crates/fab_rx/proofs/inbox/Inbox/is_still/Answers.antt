use Rattle.std.proofs.Common.{◌≡◌, ◌∙◌, false, length, sym, rules}
use Rattle.std.proofs.lemmas.Bool.{eqb-true}
use Rattle.fab_rx.proofs.Known.{still_alone}
use Rattle.fab_rx.proofs.Drawing.{still_empty}
use Rattle.fab_rx.proofs.inbox.Inbox.is_still.Goals as goal

pub returns-then-not-self : goal.returns-then-not-self
returns-then-not-self g c = λ holds.
    let none : c.self.inside.shares ≡ false = search rules in
    rw (← c.self.view_is) (still_alone _ _ _ _ _ _ _ c.self.invariant.kept _ c.self.invariant.shared (c.self.invariant.sharing none))

pub returns-else-not-self : goal.returns-else-not-self
returns-else-not-self g c = λ holds.
    let empty = eqb-true (c.self.inside.parcels.spare) (length c.self.inside.parcels.cells) (sym c.is_empty.ensures ∙ holds) in
    rw (← c.self.view_is) (still_empty _ _ _ _ _ _ _ c.self.invariant.kept _ _ c.self.invariant.aside empty)
