use Rattle.std.proofs.Common.{◌≡◌, ℕ, ◌+◌, ◌*◌, ◌%◌, ◌<◌, true, false, List, [], ◌∷◌, ◌++◌, length, get_or, set, sym, refl, ap, ◌∙◌, subst}
use Rattle.std.specs.Prelude.{None}
use Rattle.std.proofs.lemmas.Option.{same_Some, none-some}
use Rattle.std.specs.Arc.{arc_value}
use Rattle.fab_link.specs.Frames.{last_head, MayCome}
use Rattle.fab_table.specs.declared.kinds.Sent.{Sent}
use Rattle.fab_table.specs.declared.kinds.Slot.{Slot}
use Rattle.fab_table.specs.declared.kinds.Slot.TheVariants.{Cell, Pool}
use Rattle.fab_table.specs.declared.kinds.In.{In}
use Rattle.fab_table.specs.declared.kinds.Part.{Part}
use Rattle.fab_table.specs.Views.{frames_of, part_at, in_at, with_in, saw_frame, saw_empty}
use Rattle.fab_table.specs.Plays.{Sat, slot_home, oldest_of}
use Rattle.fab_ring.specs.Hands.{shapes, Fits, Sees, Tells, Told, Ends, Comes}
use Rattle.fab_ring.proofs.Hold.{flag_at, shapes_two, fits_empty, fits_open, fits_open_slot, got_len}
use Rattle.fab_ring.proofs.Rounds.{got_cell}
use Rattle.std.proofs.lemmas.List.{get_or_default as get_any}
use Rattle.fab_base.proofs.Options.{not_some as nothing}
use Rattle.fab_ring.proofs.Ends.{in_all}
use Rattle.fab_ring.proofs.Told.{told_set, comes_in}
use Rattle.fab_ring.proofs.Lasts.{ends_in}
use Rattle.fab_ring.proofs.Facts.{comes_now}
use Rattle.fab_ring.proofs.Seeing.{sees_in}
use Rattle.fab_ring.proofs.Counting.{ups_more}
use Rattle.fab_ring.proofs.port.RingPort.look.Goals as goal

pub open_next-found-requires-clause-cell : goal.open_next-found-requires-clause-cell
open_next-found-requires-clause-cell c = let q = c.seek.new.self in let f = arc_value q.fabric in let s : ℕ = c.args.src in let near : s < f.peers = subst (λ t. s < t.peers) (sym c.seek.ensures.port.0) c.requires in
    let got = got_len _ _ _ _ _ _ _ _ _ _ _ _ q.fits s c.index-got.result.now near c.index-got.ensures in
    got_cell _ _ _ _ _ _ q.rounds s c.index-got.result.now c.index-cell.result.now near (got ∙ sym (q.fits.each_got s near).0) c.index-cell.ensures ∙ ap (λ t. c.index-got.result.now % t.room) (sym c.deref.ensures)

pub invariant_of-self-in-Empty : goal.invariant_of-self-in-Empty
invariant_of-self-in-Empty c = let q = c.seek.new.self in let P = c.args.self.now in let f = arc_value q.fabric in let s : ℕ = c.args.src in let m : Sat = q.seat.seat.me in let p : Part = part_at m.0 0 in let u : In = in_at p s in
    let near : s < f.peers = subst (λ t. s < t.peers) (sym c.seek.ensures.port.0) c.requires in let inside : s < length p.ins = subst (λ (z : ℕ). s < z) (sym q.fits.all_ins) near in let was : s < length P.opened.items = subst (λ (z : ℕ). s < z) (sym P.fits.all_open) c.requires in
    let closed : u.opened ≡ None = nothing u.opened (sym (q.fits.each_got s near).1 ∙ ap (λ t. get_or t.items s false) c.seek.ensures.kept.1 ∙ flag_at P.opened.items s c.index.result.now was c.index.ensures ∙ c.if-index.false) in
    let spare : s < length q.buffers.items = subst (λ (z : ℕ). s < z) (sym q.told.all_buffers) near in let sized : length c.index_mut-2.result.now ≡ 4096 = ap length (c.index_mut-2.ensures.value ∙ get_any q.buffers.items s c.index_mut-2.result.now [] spare) ∙ q.told.sizes s near in
    let new_c = c.open_next-found.new.command in let new_b = c.open_next-found.new.buffer in let got = c.open_next-found.ensures.empty c.in-Empty.is in let u' : In = saw_empty u (length u.taken) in let all = in_all m _ s u' p.moves m.1 q.at.1 got.2 in
    record {
      at = (c.open_next-found.ensures.seat.0 ∙ q.at.0, all.0);
      fits = subst (λ (z : Part × List (ℕ × Slot)). Fits q.me f.peers f.room f.pool q.clock q.turn q.puts.items q.gots.items q.opened.items q.lent.items z.0 (shapes z.1)) (λ i. (sym all.1 i, sym all.2 i)) (fits_empty _ _ _ _ _ _ _ _ _ _ _ _ q.fits s (length u.taken) near closed);
      rounds = q.rounds;
      sees = subst (Sees f.peers q.gots_seen.items) (sym all.1) (sees_in _ _ p q.sees s u' p.moves);
      told = subst (Told f.peers (set q.commands.items s new_c) (set q.buffers.items s new_b)) (sym all.1) (told_set _ _ _ p s u' new_c new_b p.moves near inside (ap length got.1 ∙ sized) (λ x e. absurd (none-some x (sym closed ∙ e))) q.told);
      ends = subst (λ (z : Part). Ends f.peers q.posted_ends.items q.taken_ends.items z) (sym all.1) (ends_in _ _ _ p s u' p.moves near inside refl q.ends);
      counted = q.counted;
      comes = subst (λ (z : Part). ∥ Comes z ∥₁) (sym all.1) ∣ comes_in p s u' p.moves inside (λ x e. absurd (none-some x (sym closed ∙ e))) (comes_now p q.comes) ∣₁;
    }

pub invariant_of-self-in-Inline : goal.invariant_of-self-in-Inline
invariant_of-self-in-Inline c = let q = c.seek.new.self in let P = c.args.self.now in let f = arc_value q.fabric in let s : ℕ = c.args.src in let m : Sat = q.seat.seat.me in let p : Part = part_at m.0 0 in let u : In = in_at p s in
    let near : s < f.peers = subst (λ t. s < t.peers) (sym c.seek.ensures.port.0) c.requires in let inside : s < length p.ins = subst (λ (z : ℕ). s < z) (sym q.fits.all_ins) near in let was : s < length P.opened.items = subst (λ (z : ℕ). s < z) (sym P.fits.all_open) c.requires in
    let closed : u.opened ≡ None = nothing u.opened (sym (q.fits.each_got s near).1 ∙ ap (λ t. get_or t.items s false) c.seek.ensures.kept.1 ∙ flag_at P.opened.items s c.index.result.now was c.index.ensures ∙ c.if-index.false) in
    let down : get_or q.opened.items s false ≡ false = ap (λ t. get_or t.items s false) c.seek.ensures.kept.1 ∙ flag_at P.opened.items s c.index.result.now was c.index.ensures ∙ c.if-index.false in
    let more = ups_more q.open_count q.opened.items s q.counted (subst (λ (z : ℕ). s < z) (sym q.fits.all_open) near) down in
    let spare : s < length q.buffers.items = subst (λ (z : ℕ). s < z) (sym q.told.all_buffers) near in let sized : length c.index_mut-2.result.now ≡ 4096 = ap length (c.index_mut-2.ensures.value ∙ get_any q.buffers.items s c.index_mut-2.result.now [] spare) ∙ q.told.sizes s near in
    let new_c = c.open_next-found.new.command in let new_b = c.open_next-found.new.buffer in let got = c.open_next-found.ensures.inline c.in-Inline.is in let x : Sent = got.1 in let u' : In = saw_frame u got.0 x in let all = in_all m _ s u' p.moves ((oldest_of p s, Cell got.2) ∷ m.1) q.at.1 got.9 in
    record {
      at = (c.open_next-found.ensures.seat.0 ∙ q.at.0, all.0);
      fits = subst (λ (z : Part × List (ℕ × Slot)). Fits q.me f.peers f.room f.pool q.clock q.turn q.puts.items q.gots.items (set q.opened.items s true) q.lent.items z.0 (shapes z.1)) (λ i. (sym all.1 i, sym all.2 i)) (fits_open _ _ _ _ _ _ _ _ _ _ _ _ q.fits s got.0 x near c.seek.ensures.turn closed got.3 got.4 got.5);
      rounds = q.rounds;
      sees = subst (Sees f.peers q.gots_seen.items) (sym all.1) (sees_in _ _ p q.sees s u' p.moves);
      told = subst (Told f.peers (set q.commands.items s new_c) (set q.buffers.items s new_b)) (sym all.1) (told_set _ _ _ p s u' new_c new_b p.moves near inside (ap length got.8 ∙ sized) (λ y e. subst (λ (z : Sent). Tells z new_c new_b) (same_Some x y e) got.7) q.told);
      ends = subst (λ (z : Part). Ends f.peers q.posted_ends.items q.taken_ends.items z) (sym all.1) (ends_in _ _ _ p s u' p.moves near inside refl q.ends);
      counted = more;
      comes = subst (λ (z : Part). ∥ Comes z ∥₁) (sym all.1) ∣ comes_in p s u' p.moves inside (λ y e. subst (λ (z : Sent). MayCome (last_head None (frames_of u.taken)) z.frame) (same_Some x y e) got.6) (comes_now p q.comes) ∣₁;
    }

pub invariant_of-self-in-Pooled : goal.invariant_of-self-in-Pooled
invariant_of-self-in-Pooled c = let q = c.seek.new.self in let P = c.args.self.now in let f = arc_value q.fabric in let s : ℕ = c.args.src in let m : Sat = q.seat.seat.me in let p : Part = part_at m.0 0 in let u : In = in_at p s in
    let near : s < f.peers = subst (λ t. s < t.peers) (sym c.seek.ensures.port.0) c.requires in let inside : s < length p.ins = subst (λ (z : ℕ). s < z) (sym q.fits.all_ins) near in let was : s < length P.opened.items = subst (λ (z : ℕ). s < z) (sym P.fits.all_open) c.requires in
    let closed : u.opened ≡ None = nothing u.opened (sym (q.fits.each_got s near).1 ∙ ap (λ t. get_or t.items s false) c.seek.ensures.kept.1 ∙ flag_at P.opened.items s c.index.result.now was c.index.ensures ∙ c.if-index.false) in
    let down : get_or q.opened.items s false ≡ false = ap (λ t. get_or t.items s false) c.seek.ensures.kept.1 ∙ flag_at P.opened.items s c.index.result.now was c.index.ensures ∙ c.if-index.false in
    let more = ups_more q.open_count q.opened.items s q.counted (subst (λ (z : ℕ). s < z) (sym q.fits.all_open) near) down in
    let spare : s < length q.buffers.items = subst (λ (z : ℕ). s < z) (sym q.told.all_buffers) near in let sized : length c.index_mut-2.result.now ≡ 4096 = ap length (c.index_mut-2.ensures.value ∙ get_any q.buffers.items s c.index_mut-2.result.now [] spare) ∙ q.told.sizes s near in
    let new_c = c.open_next-found.new.command in let new_b = c.open_next-found.new.buffer in let got = c.open_next-found.ensures.pooled c.in-Pooled.is in let x : Sent = got.1 in let k : ℕ = got.3 in let u' : In = saw_frame u got.0 x in let y : ℕ × Slot = (oldest_of p s, Cell got.2) in let z : ℕ × Slot = (slot_home m.0 0 k, Pool c.index_mut-2.result.now) in
    let all = in_all m _ s u' p.moves ((m.1 ++ y ∷ []) ++ z ∷ []) q.at.1 got.11 in let low : k < f.peers * f.pool = subst (λ t. k < t.peers * t.pool) c.deref.ensures got.7 in
    let shaped : shapes ((m.1 ++ y ∷ []) ++ z ∷ []) ≡ (shapes m.1 ++ (oldest_of p s, 0) ∷ []) ++ (slot_home m.0 0 k, 4097) ∷ [] = shapes_two m.1 y z ∙ (λ i. (shapes m.1 ++ (oldest_of p s, 0) ∷ []) ++ (slot_home m.0 0 k, sized i + 1) ∷ []) in
    record {
      at = (c.open_next-found.ensures.seat.0 ∙ q.at.0, all.0);
      fits = subst (λ (z : Part × List (ℕ × Slot)). Fits q.me f.peers f.room f.pool q.clock (q.turn + 1) q.puts.items q.gots.items (set q.opened.items s true) (set q.lent.items s true) z.0 (shapes z.1)) (λ i. (sym all.1 i, sym all.2 i)) (subst (Fits q.me f.peers f.room f.pool q.clock (q.turn + 1) q.puts.items q.gots.items (set q.opened.items s true) (set q.lent.items s true) (with_in p s u' p.moves)) (sym shaped) (fits_open_slot _ _ _ _ _ _ _ _ _ _ _ _ q.fits s got.0 k x near c.seek.ensures.turn closed got.4 got.5 got.6 low));
      rounds = q.rounds;
      sees = subst (Sees f.peers q.gots_seen.items) (sym all.1) (sees_in _ _ p q.sees s u' p.moves);
      told = subst (Told f.peers (set q.commands.items s new_c) (set q.buffers.items s new_b)) (sym all.1) (told_set _ _ _ p s u' new_c new_b p.moves near inside got.10 (λ w e. subst (λ (v : Sent). Tells v new_c new_b) (same_Some x w e) got.9) q.told);
      ends = subst (λ (z : Part). Ends f.peers q.posted_ends.items q.taken_ends.items z) (sym all.1) (ends_in _ _ _ p s u' p.moves near inside refl q.ends);
      counted = more;
      comes = subst (λ (z : Part). ∥ Comes z ∥₁) (sym all.1) ∣ comes_in p s u' p.moves inside (λ w e. subst (λ (v : Sent). MayCome (last_head None (frames_of u.taken)) v.frame) (same_Some x w e) got.8) (comes_now p q.comes) ∣₁;
    }

pub returns-in-Empty-clause-saw : goal.returns-in-Empty-clause-saw
returns-in-Empty-clause-saw c = λ _ _. let q = c.seek.new.self in let s : ℕ = c.args.src in let near : s < (arc_value q.fabric).peers = subst (λ t. s < t.peers) (sym c.seek.ensures.port.0) c.requires in record {
  seat = q.seat.seat.me;
  alone = q.at.1;
  knew = c.seek.ensures.part;
  shown = c.index-got.result.now;
  step = c.open_next-found.ensures.saw c.in-Empty.is;
  all = got_len _ _ _ _ _ _ _ _ _ _ _ _ q.fits s c.index-got.result.now near c.index-got.ensures ∙ ap (λ (z : Part). length (in_at z s).taken) c.seek.ensures.part;
}
