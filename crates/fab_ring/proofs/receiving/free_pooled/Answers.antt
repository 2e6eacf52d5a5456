use Rattle.std.proofs.Common.{◌≡◌, ◌∷◌, sym, refl, ◌∙◌, subst}
use Rattle.atomic_table.specs.Table.{rest, turned}
use Rattle.fab_table.specs.declared.kinds.Slot.TheVariants.{Pool}
use Rattle.fab_table.specs.Plays.{Sat, slot_home}
use Rattle.fab_table.specs.Seats.{view_of_seat}
use Rattle.fab_ring.proofs.receiving.free_pooled.Goals as goal

pub free_slot-requires-clause-hand : goal.free_slot-requires-clause-hand
free_slot-requires-clause-hand c = let h = c.requires.hand in let t = c.turn.ensures.1 ∙ (λ i. (view_of_seat c.args.seat.now, turned (h.4 i))) in
    (Pool h.2, h.3, subst (λ (m : Sat). m.1 ≡ (slot_home m.0 0 c.args.slot, Pool h.2) ∷ rest m.1) (sym t) refl)
