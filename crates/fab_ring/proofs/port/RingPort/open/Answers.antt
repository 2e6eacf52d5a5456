use Rattle.std.proofs.Common.{ℕ, ◌<◌, Bool, false, List, length, sym, ap, ◌∙◌, subst}
use Rattle.std.specs.Arc.{arc_value}
use Rattle.fab_table.specs.declared.kinds.Slot.{Slot}
use Rattle.fab_table.specs.declared.kinds.Part.{Part}
use Rattle.fab_table.specs.Views.{part_at}
use Rattle.fab_ring.specs.Hands.{shapes, Fits, Sees, Told, Ends, Comes, ups}
use Rattle.std.specs.Prelude.{replicate, None}
use Rattle.fab_ring.proofs.Hold.{fits_new}
use Rattle.fab_ring.proofs.Told.{told_new}
use Rattle.fab_ring.proofs.Making.{comes_new}
use Rattle.fab_ring.proofs.Lasts.{ends_new}
use Rattle.fab_ring.proofs.Rounds.{rounds_new}
use Rattle.fab_ring.proofs.Seeing.{sees_new}
use Rattle.fab_ring.proofs.Counting.{ups_new}
use Rattle.fab_ring.proofs.port.RingPort.open.Goals as goal

pub invariant_of-result : goal.invariant_of-result
invariant_of-result c = let f = arc_value c.args.fabric in let v = c.requires.part in let all = c.peers-peers.ensures ∙ ap (λ z. z.peers) c.deref.ensures in record {
  at = (c.requires.seat.0, ap (λ z. length z.parts) v);
  fits = subst (λ (z : Part × List (ℕ × Slot)). Fits c.args.me f.peers f.room f.pool 0 0 c.in_ok-puts.puts.items c.in_ok-gots.gots.items c.in_ok-opened.opened.items c.in_ok-lent.lent.items z.0 (shapes z.1)) (λ i. (part_at (sym v i) 0, sym c.requires.seat.1 i))
      (fits_new c.args.me f.peers f.room f.pool _ _ _ _ c.requires.seat.2 (c.in_ok-puts.ensures {u = tt} ∙ ap (λ (z : ℕ). replicate z 0) all) (c.in_ok-gots.ensures {u = tt} ∙ ap (λ (z : ℕ). replicate z 0) all)
      (c.in_ok-opened.ensures {u = tt} ∙ ap (λ (z : ℕ). replicate {A = Bool} z false) all) (c.in_ok-lent.ensures {u = tt} ∙ ap (λ (z : ℕ). replicate {A = Bool} z false) all));
  rounds = rounds_new f.peers f.room _ _ _ _ (c.in_ok-puts.ensures {u = tt} ∙ ap (λ (z : ℕ). replicate z 0) all) (c.in_ok-gots.ensures {u = tt} ∙ ap (λ (z : ℕ). replicate z 0) all) (c.in_ok-put_cells.ensures {u = tt} ∙ ap (λ (z : ℕ). replicate z 0) all) (c.in_ok-got_cells.ensures {u = tt} ∙ ap (λ (z : ℕ). replicate z 0) all);
  sees = subst (Sees f.peers c.in_ok-gots_seen.gots_seen.items) (λ i. part_at (sym v i) 0) (sees_new f.peers f.room f.pool c.args.me _ (c.in_ok-gots_seen.ensures {u = tt} ∙ ap (λ (z : ℕ). replicate z 0) all));
  told = subst (Told f.peers c.in_ok-commands.commands.items c.in_ok-buffers.buffers.items) (λ i. part_at (sym v i) 0)
      (told_new f.peers f.room f.pool c.args.me _ _ (c.in_ok-commands.ensures {u = tt} ∙ all) (c.in_ok-buffers.ensures.count ∙ all) (λ s near. c.in_ok-buffers.ensures.sizes s (subst (λ (z : ℕ). s < z) (sym all) near)));
  ends = subst (λ (z : Part). Ends f.peers c.in_ok-posted_ends.posted_ends.items c.in_ok-taken_ends.taken_ends.items z) (λ i. part_at (sym v i) 0) (ends_new f.peers f.room f.pool c.args.me _ _ (c.in_ok-posted_ends.ensures {u = tt} ∙ ap (λ (z : ℕ). replicate z None) all) (c.in_ok-taken_ends.ensures {u = tt} ∙ ap (λ (z : ℕ). replicate z None) all));
  counted = sym (ap ups (c.in_ok-opened.ensures {u = tt}) ∙ ups_new c.peers-peers.result);
  comes = subst (λ (z : Part). ∥ Comes z ∥₁) (λ i. part_at (sym v i) 0) ∣ comes_new f.peers f.room f.pool c.args.me ∣₁;
}
