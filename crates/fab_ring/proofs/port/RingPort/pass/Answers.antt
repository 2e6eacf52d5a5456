use Rattle.std.proofs.Common.{◌≡◌, ℕ, ◌+◌, ◌<◌, length, sym, ap, ◌∙◌, subst}
use Rattle.std.specs.Arc.{arc_value}
use Rattle.atomic_table.specs.Table.{turned}
use Rattle.fab_table.specs.Views.{part_at}
use Rattle.fab_table.specs.Plays.{Sat}
use Rattle.fab_ring.specs.Hands.{shapes, Fits, Sees, Told, Ends, Comes}
use Rattle.fab_ring.proofs.Hold.{flag_at, shapes_turned, fits_pass, fits_turn, fits_turn_two}
use Rattle.fab_ring.proofs.port.RingPort.pass.Goals as goal

pub invariant_of-self : goal.invariant_of-self
invariant_of-self c = let q = c.args.self.now in let f = arc_value q.fabric in let t : ℕ = q.turn in let low : t < f.peers = c.requires in let near : t < length q.opened.items = subst (λ (z : ℕ). t < z) (sym q.fits.all_open) low in let near' : t < length q.lent.items = subst (λ (z : ℕ). t < z) (sym q.fits.all_lent) low in
    record { at = q.at; fits = fits_pass _ _ _ _ _ _ _ _ _ _ _ _ q.fits low (flag_at q.opened.items t c.index.result.now near c.index.ensures ∙ c.if-not-index.true); rounds = q.rounds; sees = q.sees; told = q.told; ends = q.ends; counted = q.counted; comes = q.comes }

pub invariant_of-self-then-not-index-2 : goal.invariant_of-self-then-not-index-2
invariant_of-self-then-not-index-2 c = let q = c.args.self.now in let f = arc_value q.fabric in let t : ℕ = q.turn in let low : t < f.peers = c.requires in let near : t < length q.opened.items = subst (λ (z : ℕ). t < z) (sym q.fits.all_open) low in let near' : t < length q.lent.items = subst (λ (z : ℕ). t < z) (sym q.fits.all_lent) low in
    let after = c.turn.ensures.1 in let m : Sat = q.seat.seat.me in
    record {
      at = (c.turn.ensures.0.0 ∙ q.at.0, ap (λ (m : Sat). length m.0.parts) after ∙ q.at.1);
      fits = subst (λ (z : Sat). Fits q.me f.peers f.room f.pool q.clock (t + 1) q.puts.items q.gots.items q.opened.items q.lent.items (part_at z.0 0) (shapes z.1)) (sym after) (subst (Fits q.me f.peers f.room f.pool q.clock (t + 1) q.puts.items q.gots.items q.opened.items q.lent.items (part_at m.0 0)) (sym (shapes_turned m.1)) (fits_turn _ _ _ _ _ _ _ _ _ _ _ _ q.fits low (flag_at q.opened.items t c.index.result.now near c.index.ensures ∙ c.if-not-index.false) (flag_at q.lent.items t c.index-2.result.now near' c.index-2.ensures ∙ c.if-not-index-2.true)));
      rounds = q.rounds;
      sees = subst (λ (z : Sat). Sees f.peers q.gots_seen.items (part_at z.0 0)) (sym after) q.sees;
      told = subst (λ (z : Sat). Told f.peers q.commands.items q.buffers.items (part_at z.0 0)) (sym after) q.told;
      ends = subst (λ (z : Sat). Ends f.peers q.posted_ends.items q.taken_ends.items (part_at z.0 0)) (sym after) q.ends;
      counted = q.counted;
      comes = subst (λ (z : Sat). ∥ Comes (part_at z.0 0) ∥₁) (sym after) q.comes;
    }

pub invariant_of-self-2 : goal.invariant_of-self-2
invariant_of-self-2 c = let q = c.args.self.now in let f = arc_value q.fabric in let t : ℕ = q.turn in let low : t < f.peers = c.requires in let near : t < length q.opened.items = subst (λ (z : ℕ). t < z) (sym q.fits.all_open) low in let near' : t < length q.lent.items = subst (λ (z : ℕ). t < z) (sym q.fits.all_lent) low in
    let once = c.turn-2.ensures.1 in let m : Sat = q.seat.seat.me in let after : c.turn-3.new.self.seat.me ≡ (m.0, turned (turned m.1)) = c.turn-3.ensures.1 ∙ (λ i. ((once i).0, turned (once i).1)) in
    record {
      at = (c.turn-3.ensures.0.0 ∙ c.turn-2.ensures.0.0 ∙ q.at.0, ap (λ (m : Sat). length m.0.parts) after ∙ q.at.1);
      fits = subst (λ (z : Sat). Fits q.me f.peers f.room f.pool q.clock (t + 1) q.puts.items q.gots.items q.opened.items q.lent.items (part_at z.0 0) (shapes z.1)) (sym after) (subst (Fits q.me f.peers f.room f.pool q.clock (t + 1) q.puts.items q.gots.items q.opened.items q.lent.items (part_at m.0 0)) (sym (shapes_turned (turned m.1) ∙ ap turned (shapes_turned m.1))) (fits_turn_two _ _ _ _ _ _ _ _ _ _ _ _ q.fits low (flag_at q.lent.items t c.index-2.result.now near' c.index-2.ensures ∙ c.if-not-index-2.false)));
      rounds = q.rounds;
      sees = subst (λ (z : Sat). Sees f.peers q.gots_seen.items (part_at z.0 0)) (sym after) q.sees;
      told = subst (λ (z : Sat). Told f.peers q.commands.items q.buffers.items (part_at z.0 0)) (sym after) q.told;
      ends = subst (λ (z : Sat). Ends f.peers q.posted_ends.items q.taken_ends.items (part_at z.0 0)) (sym after) q.ends;
      counted = q.counted;
      comes = subst (λ (z : Sat). ∥ Comes (part_at z.0 0) ∥₁) (sym after) q.comes;
    }
