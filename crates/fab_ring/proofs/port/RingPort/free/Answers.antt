use Rattle.std.proofs.Common.{◌≡◌, ℕ, ◌+◌, ◌*◌, ◌<◌, true, false, List, [], ◌∷◌, ◌++◌, length, get_or, set, sym, refl, ap, ◌∙◌, subst}
use Rattle.std.specs.Prelude.{Some}
use Rattle.std.proofs.lemmas.Option.{same_Some, slice_get-get_or}
use mathlib.Core.List.{map-append}
use Rattle.std.specs.Arc.{arc_value}
use Rattle.atomic_table.specs.Table.{rest}
use Rattle.fab_table.specs.declared.kinds.Command.{Command}
use Rattle.fab_table.specs.declared.kinds.Sent.{Sent}
use Rattle.fab_table.specs.declared.kinds.Slot.{Slot}
use Rattle.fab_table.specs.declared.kinds.Slot.TheVariants.{Cell, Pool}
use Rattle.fab_table.specs.declared.kinds.In.{In}
use Rattle.fab_table.specs.declared.kinds.Part.{Part}
use Rattle.fab_table.specs.Views.{part_at, in_at, with_in, freed_one}
use Rattle.fab_table.specs.Plays.{Sat, oldest_of}
use Rattle.fab_ring.specs.Hands.{shape, shapes, held, Fits, Sees, Told, Ends, Comes}
use Rattle.fab_ring.proofs.Hold.{lends_slot, behind, flag_at, cell_first, pool_first, fits_two, fits_free}
use Rattle.fab_ring.proofs.Ends.{in_all}
use Rattle.fab_ring.proofs.Told.{told_in, comes_in}
use Rattle.fab_ring.proofs.Lasts.{ends_in}
use Rattle.fab_ring.proofs.Facts.{comes_now}
use Rattle.fab_ring.proofs.Seeing.{sees_in}
use Rattle.fab_ring.proofs.port.RingPort.free.Goals as goal

pub unreachable-requires : goal.unreachable-requires
unreachable-requires c = let q = c.seek.new.self in let P = c.args.self.now in let f = arc_value q.fabric in let s : ℕ = c.args.src in let m : Sat = q.seat.seat.me in let p : Part = part_at m.0 0 in let u : In = in_at p s in
    let near : s < f.peers = subst (λ t. s < t.peers) (sym c.seek.ensures.port.0) c.requires.0 in let inside : s < length p.ins = subst (λ (z : ℕ). s < z) (sym q.fits.all_ins) near in let was : s < length P.lent.items = subst (λ (z : ℕ). s < z) (sym P.fits.all_lent) c.requires.0 in
    let has : u.lent ≡ true = sym (q.fits.each_got s near).2 ∙ ap (λ t. get_or t.items s false) c.seek.ensures.kept.2 ∙ flag_at P.lent.items s c.index.result.now was c.index.ensures ∙ c.if-not-index.false in
    let slotted = (q.fits.each_got s near).4 has in let l = lends_slot u.opened slotted.0 in let x : Sent = l.0 in let k : ℕ = l.1 in let cmd : Command = c.index-2.result.now in
    let there = slice_get-get_or q.commands.items s cmd (subst (λ (z : ℕ). s < z) (sym q.told.all_commands) near) ∙ (λ i. Some (sym c.index-2.ensures i)) in let says = (q.told.says s cmd x there l.2).1 in let named : cmd.slot ≡ Some k = says.1 ∙ l.3 in
    c.in_default.not-Some k named

pub free_pooled-requires-clause-below : goal.free_pooled-requires-clause-below
free_pooled-requires-clause-below c = let q = c.seek.new.self in let P = c.args.self.now in let f = arc_value q.fabric in let s : ℕ = c.args.src in let m : Sat = q.seat.seat.me in let p : Part = part_at m.0 0 in let u : In = in_at p s in
    let near : s < f.peers = subst (λ t. s < t.peers) (sym c.seek.ensures.port.0) c.requires.0 in let inside : s < length p.ins = subst (λ (z : ℕ). s < z) (sym q.fits.all_ins) near in let was : s < length P.lent.items = subst (λ (z : ℕ). s < z) (sym P.fits.all_lent) c.requires.0 in
    let has : u.lent ≡ true = sym (q.fits.each_got s near).2 ∙ ap (λ t. get_or t.items s false) c.seek.ensures.kept.2 ∙ flag_at P.lent.items s c.index.result.now was c.index.ensures ∙ c.if-not-index.false in
    let slotted = (q.fits.each_got s near).4 has in let l = lends_slot u.opened slotted.0 in let x : Sent = l.0 in let k : ℕ = l.1 in let cmd : Command = c.index-2.result.now in
    let there = slice_get-get_or q.commands.items s cmd (subst (λ (z : ℕ). s < z) (sym q.told.all_commands) near) ∙ (λ i. Some (sym c.index-2.ensures i)) in let says = (q.told.says s cmd x there l.2).1 in let named : cmd.slot ≡ Some k = says.1 ∙ l.3 in
    let slot : ℕ = c.in-Some.slot in let slot_is : slot ≡ k = same_Some slot k (sym c.in-Some.is ∙ named) in let old : ℕ = oldest_of p s in let base : ℕ = p.peers * p.peers * p.room in
    subst (λ t. (s < t.peers) × (slot < t.peers * t.pool)) (sym c.deref.ensures) (near, subst (λ (z : ℕ). z < f.peers * f.pool) (l.4 ∙ sym slot_is) slotted.1)

pub free_pooled-requires-clause-opened : goal.free_pooled-requires-clause-opened
free_pooled-requires-clause-opened c = let q = c.seek.new.self in let P = c.args.self.now in let f = arc_value q.fabric in let s : ℕ = c.args.src in let m : Sat = q.seat.seat.me in let p : Part = part_at m.0 0 in let u : In = in_at p s in
    let near : s < f.peers = subst (λ t. s < t.peers) (sym c.seek.ensures.port.0) c.requires.0 in let inside : s < length p.ins = subst (λ (z : ℕ). s < z) (sym q.fits.all_ins) near in let was : s < length P.lent.items = subst (λ (z : ℕ). s < z) (sym P.fits.all_lent) c.requires.0 in
    let has : u.lent ≡ true = sym (q.fits.each_got s near).2 ∙ ap (λ t. get_or t.items s false) c.seek.ensures.kept.2 ∙ flag_at P.lent.items s c.index.result.now was c.index.ensures ∙ c.if-not-index.false in
    let slotted = (q.fits.each_got s near).4 has in let l = lends_slot u.opened slotted.0 in let x : Sent = l.0 in let k : ℕ = l.1 in let cmd : Command = c.index-2.result.now in
    let there = slice_get-get_or q.commands.items s cmd (subst (λ (z : ℕ). s < z) (sym q.told.all_commands) near) ∙ (λ i. Some (sym c.index-2.ensures i)) in let says = (q.told.says s cmd x there l.2).1 in let named : cmd.slot ≡ Some k = says.1 ∙ l.3 in
    let slot : ℕ = c.in-Some.slot in let slot_is : slot ≡ k = same_Some slot k (sym c.in-Some.is ∙ named) in let old : ℕ = oldest_of p s in let base : ℕ = p.peers * p.peers * p.room in
    (x, l.2, l.3 ∙ (λ i. Some (sym slot_is i)), has)

pub free_pooled-requires-clause-hand : goal.free_pooled-requires-clause-hand
free_pooled-requires-clause-hand c = let q = c.seek.new.self in let P = c.args.self.now in let f = arc_value q.fabric in let s : ℕ = c.args.src in let m : Sat = q.seat.seat.me in let p : Part = part_at m.0 0 in let u : In = in_at p s in
    let near : s < f.peers = subst (λ t. s < t.peers) (sym c.seek.ensures.port.0) c.requires.0 in let inside : s < length p.ins = subst (λ (z : ℕ). s < z) (sym q.fits.all_ins) near in let was : s < length P.lent.items = subst (λ (z : ℕ). s < z) (sym P.fits.all_lent) c.requires.0 in
    let has : u.lent ≡ true = sym (q.fits.each_got s near).2 ∙ ap (λ t. get_or t.items s false) c.seek.ensures.kept.2 ∙ flag_at P.lent.items s c.index.result.now was c.index.ensures ∙ c.if-not-index.false in
    let slotted = (q.fits.each_got s near).4 has in let l = lends_slot u.opened slotted.0 in let x : Sent = l.0 in let k : ℕ = l.1 in let cmd : Command = c.index-2.result.now in
    let there = slice_get-get_or q.commands.items s cmd (subst (λ (z : ℕ). s < z) (sym q.told.all_commands) near) ∙ (λ i. Some (sym c.index-2.ensures i)) in let says = (q.told.says s cmd x there l.2).1 in let named : cmd.slot ≡ Some k = says.1 ∙ l.3 in
    let slot : ℕ = c.in-Some.slot in let slot_is : slot ≡ k = same_Some slot k (sym c.in-Some.is ∙ named) in let old : ℕ = oldest_of p s in let base : ℕ = p.peers * p.peers * p.room in
    let first = cell_first m.1 old ((base + k, 4097) ∷ behind (held p) f.peers s) (fits_two _ _ _ _ _ _ _ _ _ _ _ _ q.fits s k x near c.seek.ensures.turn l.2 has l.3) in let second = pool_first (rest m.1) (base + k) 4096 (behind (held p) f.peers s) first.2 in
    let hand : m.1 ≡ (old, Cell first.0) ∷ (base + slot, Pool second.0) ∷ rest (rest m.1) = first.1 ∙ (λ i. (old, Cell first.0) ∷ second.1 i) ∙ (λ i. (old, Cell first.0) ∷ (base + sym slot_is i, Pool second.0) ∷ rest (rest m.1)) in
    (old, first.0, second.0, second.2, hand)

pub invariant_of-self-2 : goal.invariant_of-self-2
invariant_of-self-2 c = let q = c.seek.new.self in let P = c.args.self.now in let f = arc_value q.fabric in let s : ℕ = c.args.src in let m : Sat = q.seat.seat.me in let p : Part = part_at m.0 0 in let u : In = in_at p s in
    let near : s < f.peers = subst (λ t. s < t.peers) (sym c.seek.ensures.port.0) c.requires.0 in let inside : s < length p.ins = subst (λ (z : ℕ). s < z) (sym q.fits.all_ins) near in let was : s < length P.lent.items = subst (λ (z : ℕ). s < z) (sym P.fits.all_lent) c.requires.0 in
    let has : u.lent ≡ true = sym (q.fits.each_got s near).2 ∙ ap (λ t. get_or t.items s false) c.seek.ensures.kept.2 ∙ flag_at P.lent.items s c.index.result.now was c.index.ensures ∙ c.if-not-index.false in
    let slotted = (q.fits.each_got s near).4 has in let l = lends_slot u.opened slotted.0 in let x : Sent = l.0 in let k : ℕ = l.1 in let cmd : Command = c.index-2.result.now in
    let there = slice_get-get_or q.commands.items s cmd (subst (λ (z : ℕ). s < z) (sym q.told.all_commands) near) ∙ (λ i. Some (sym c.index-2.ensures i)) in let says = (q.told.says s cmd x there l.2).1 in let named : cmd.slot ≡ Some k = says.1 ∙ l.3 in
    let slot : ℕ = c.in-Some.slot in let slot_is : slot ≡ k = same_Some slot k (sym c.in-Some.is ∙ named) in let old : ℕ = oldest_of p s in let base : ℕ = p.peers * p.peers * p.room in
    let first = cell_first m.1 old ((base + k, 4097) ∷ behind (held p) f.peers s) (fits_two _ _ _ _ _ _ _ _ _ _ _ _ q.fits s k x near c.seek.ensures.turn l.2 has l.3) in let second = pool_first (rest m.1) (base + k) 4096 (behind (held p) f.peers s) first.2 in
    let hand : m.1 ≡ (old, Cell first.0) ∷ (base + slot, Pool second.0) ∷ rest (rest m.1) = first.1 ∙ (λ i. (old, Cell first.0) ∷ second.1 i) ∙ (λ i. (old, Cell first.0) ∷ (base + sym slot_is i, Pool second.0) ∷ rest (rest m.1)) in
    let u' : In = freed_one u in let all = in_all m _ s u' p.moves (rest (rest m.1) ++ (old, Cell first.0) ∷ []) q.at.1 (c.free_pooled.ensures.view old first.0 (base + slot, Pool second.0) hand) in
    let shaped : shapes (rest (rest m.1) ++ (old, Cell first.0) ∷ []) ≡ behind (held p) f.peers s ++ (old, 0) ∷ [] = map-append shape (rest (rest m.1)) ((old, Cell first.0) ∷ []) ∙ ap (λ (z : List (ℕ × ℕ)). z ++ (old, 0) ∷ []) second.3 in
    record {
      at = (c.free_pooled.ensures.seat.0 ∙ q.at.0, all.0);
      fits = subst (λ (z : Part × List (ℕ × Slot)). Fits q.me f.peers f.room f.pool q.clock (q.turn + 1) q.puts.items q.gots.items q.opened.items (set q.lent.items s false) z.0 (shapes z.1)) (λ i. (sym all.1 i, sym all.2 i))
          (subst (Fits q.me f.peers f.room f.pool q.clock (q.turn + 1) q.puts.items q.gots.items q.opened.items (set q.lent.items s false) (with_in p s u' p.moves)) (sym shaped) (fits_free _ _ _ _ _ _ _ _ _ _ _ _ q.fits s x near c.seek.ensures.turn l.2));
      rounds = q.rounds;
      sees = subst (Sees f.peers q.gots_seen.items) (sym all.1) (sees_in _ _ p q.sees s u' p.moves);
      told = subst (Told f.peers q.commands.items q.buffers.items) (sym all.1) (told_in _ _ _ p s u' p.moves inside (λ y e. e) q.told);
      ends = subst (λ (z : Part). Ends f.peers q.posted_ends.items q.taken_ends.items z) (sym all.1) (ends_in _ _ _ p s u' p.moves near inside refl q.ends);
      counted = q.counted;
      comes = subst (λ (z : Part). ∥ Comes z ∥₁) (sym all.1) ∣ comes_in p s u' p.moves inside (λ y e. comes_now p q.comes s y e) (comes_now p q.comes) ∣₁;
    }

pub returns-clause-part : goal.returns-clause-part
returns-clause-part c = let q = c.seek.new.self in let P = c.args.self.now in let f = arc_value q.fabric in let s : ℕ = c.args.src in let m : Sat = q.seat.seat.me in let p : Part = part_at m.0 0 in let u : In = in_at p s in
    let near : s < f.peers = subst (λ t. s < t.peers) (sym c.seek.ensures.port.0) c.requires.0 in let inside : s < length p.ins = subst (λ (z : ℕ). s < z) (sym q.fits.all_ins) near in let was : s < length P.lent.items = subst (λ (z : ℕ). s < z) (sym P.fits.all_lent) c.requires.0 in
    let has : u.lent ≡ true = sym (q.fits.each_got s near).2 ∙ ap (λ t. get_or t.items s false) c.seek.ensures.kept.2 ∙ flag_at P.lent.items s c.index.result.now was c.index.ensures ∙ c.if-not-index.false in
    let slotted = (q.fits.each_got s near).4 has in let l = lends_slot u.opened slotted.0 in let x : Sent = l.0 in let k : ℕ = l.1 in let cmd : Command = c.index-2.result.now in
    let there = slice_get-get_or q.commands.items s cmd (subst (λ (z : ℕ). s < z) (sym q.told.all_commands) near) ∙ (λ i. Some (sym c.index-2.ensures i)) in let says = (q.told.says s cmd x there l.2).1 in let named : cmd.slot ≡ Some k = says.1 ∙ l.3 in
    let slot : ℕ = c.in-Some.slot in let slot_is : slot ≡ k = same_Some slot k (sym c.in-Some.is ∙ named) in let old : ℕ = oldest_of p s in let base : ℕ = p.peers * p.peers * p.room in
    let first = cell_first m.1 old ((base + k, 4097) ∷ behind (held p) f.peers s) (fits_two _ _ _ _ _ _ _ _ _ _ _ _ q.fits s k x near c.seek.ensures.turn l.2 has l.3) in let second = pool_first (rest m.1) (base + k) 4096 (behind (held p) f.peers s) first.2 in
    let hand : m.1 ≡ (old, Cell first.0) ∷ (base + slot, Pool second.0) ∷ rest (rest m.1) = first.1 ∙ (λ i. (old, Cell first.0) ∷ second.1 i) ∙ (λ i. (old, Cell first.0) ∷ (base + sym slot_is i, Pool second.0) ∷ rest (rest m.1)) in
    let u' : In = freed_one u in let all = in_all m _ s u' p.moves (rest (rest m.1) ++ (old, Cell first.0) ∷ []) q.at.1 (c.free_pooled.ensures.view old first.0 (base + slot, Pool second.0) hand) in
    let shaped : shapes (rest (rest m.1) ++ (old, Cell first.0) ∷ []) ≡ behind (held p) f.peers s ++ (old, 0) ∷ [] = map-append shape (rest (rest m.1)) ((old, Cell first.0) ∷ []) ∙ ap (λ (z : List (ℕ × ℕ)). z ++ (old, 0) ∷ []) second.3 in
    all.1 ∙ ap (λ (z : Part). with_in z s (freed_one (in_at z s)) z.moves) c.seek.ensures.part
