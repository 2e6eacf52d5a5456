use Rattle.std.proofs.Common.{◌≡◌, ℕ, ◌-◌, ◌≤◌, ◌∷◌, List}
use Rattle.std.specs.Prelude.{None}
use Rattle.atomic_table.specs.Table.{rest}
use Rattle.fab_table.specs.declared.kinds.Command.{Command}
use Rattle.fab_table.specs.declared.kinds.Slot.TheVariants.{Cell}
use Rattle.fab_table.specs.Plays.{new_out_view}
use Rattle.fab_table.specs.Seats.{IsSame, carried, view_of_seat, sat, out_of, named}
use Rattle.fab_ring.specs.Tries.{IsTriedFrom, tried_out}
use Rattle.fab_ring.proofs.sending.claim_between.Given as goal

-- the tries so far, and the cell that differs in its slot alone
abbrev pub invariant-loop-j : goal.invariant-loop-j
invariant-loop-j l = ((l.from ≤ l.j) × (l.j ≤ l.to)) × IsSame l.fn.seat l.seat × ((c : Command) × (ts : List ℕ) × (f : ℕ) × IsTriedFrom (out_of l.fn.seat 0 l.next.dest) l.from l.j ts f
    × (sat l.seat ≡ (new_out_view (view_of_seat l.fn.seat) 0 l.next.dest (tried_out (out_of l.fn.seat 0 l.next.dest) ts f (out_of l.fn.seat 0 l.next.dest).writing None), (l.next.place, Cell c) ∷ rest (carried l.fn.seat)))
    × ((k : Command) (q : ℕ) → carried l.fn.seat ≡ (l.next.place, Cell k) ∷ rest (carried l.fn.seat) → named c q ≡ named k q))

abbrev pub decreases-loop-j : goal.decreases-loop-j
decreases-loop-j l = l.to - l.j
