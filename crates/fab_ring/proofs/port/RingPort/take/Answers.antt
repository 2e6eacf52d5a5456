use Rattle.std.proofs.Common.{◌≡◌, ℕ, ◌+◌, ◌-◌, ◌%◌, max, ◌<◌, false, List, [], ◌∷◌, ◌++◌, length, set, get_or-set_same, sym, refl, ap, ◌∙◌, subst, arith}
use Rattle.std.specs.Prelude.{Option, Some}
use Rattle.std.specs.Option.{is_some}
use Rattle.std.proofs.lemmas.Option.{same_Some, none-some, slice_get-get_or}
use Rattle.std.specs.Arc.{arc_value}
use Rattle.atomic_table.specs.Table.{rest}
use Rattle.fab_base.specs.declared.frames.FrameHead.{FrameHead}
use Rattle.fab_link.specs.declared.moves.Move.{Move}
use Rattle.fab_link.specs.declared.moves.Move.TheVariants.{Take}
use Rattle.fab_table.specs.declared.kinds.Command.{Command}
use Rattle.fab_table.specs.declared.kinds.Sent.{Sent}
use Rattle.fab_table.specs.declared.kinds.Slot.{Slot}
use Rattle.fab_table.specs.declared.kinds.In.{In}
use Rattle.fab_table.specs.declared.kinds.Part.{Part}
use Rattle.fab_table.specs.Views.{part_at, in_at, with_in, freed_one, taken_one, new_in}
use Rattle.fab_table.specs.Plays.{Sat, oldest_of}
use Rattle.fab_ring.specs.Hands.{shapes, held, Fits, Sees, Told, Ends, Comes, ups}
use Rattle.fab_ring.proofs.Hold.{behind, cell_first, fits_first, fits_take, got_len}
use Rattle.fab_ring.proofs.Ends.{in_over, in_all}
use Rattle.fab_ring.proofs.Told.{told_in, comes_in}
use Rattle.fab_ring.proofs.Lasts.{ends_take}
use Rattle.fab_ring.proofs.Rounds.{got_cell, rounds_got}
use Rattle.std.proofs.Math.Nat.{mod-lt}
use Rattle.fab_base.proofs.Options.{there_is as opened_is}
use Rattle.fab_ring.proofs.Facts.{comes_now}
use Rattle.fab_ring.proofs.Seeing.{sees_in}
use Rattle.fab_ring.proofs.Counting.{ups_less}
use Rattle.fab_ring.proofs.port.RingPort.take.Goals as goal

pub give_back-requires-clause-opened : goal.give_back-requires-clause-opened
give_back-requires-clause-opened c = let q = c.seek.new.self in let P = c.args.self.now in let f = arc_value q.fabric in let s : ℕ = c.args.src in let m : Sat = q.seat.seat.me in let p : Part = part_at m.0 0 in let p₀ : Part = part_at P.seat.seat.me.0 0 in let u₀ : In = in_at p₀ s in
    let pq : p ≡ with_in p₀ s (freed_one u₀) p₀.moves = c.seek.ensures.part ∙ c.free.ensures.part in let inside₀ : s < length p₀.ins = subst (λ (z : ℕ). s < z) (sym P.fits.all_ins) c.requires.0 in
    let uq : in_at p s ≡ freed_one u₀ = ap (λ (z : Part). in_at z s) pq ∙ get_or-set_same p₀.ins s (freed_one u₀) new_in inside₀ in let open₀ = opened_is u₀.opened c.requires.1 in let x : Sent = open₀.0 in
    let held_is : (in_at p s).opened ≡ Some x = ap (λ (z : In). z.opened) uq ∙ open₀.1 in let given : (in_at p s).lent ≡ false = ap (λ (z : In). z.lent) uq in
    let near : s < f.peers = subst (λ t. s < t.peers) (sym (c.seek.ensures.port.0 ∙ c.free.ensures.port.0)) c.requires.0 in let inside : s < length p.ins = subst (λ (z : ℕ). s < z) (sym q.fits.all_ins) near in
    let got = got_len _ _ _ _ _ _ _ _ _ _ _ _ q.fits s c.index-got.result.now near c.index-got.ensures in let few : c.index-got.result.now + 1 < 18446744073709551616 = subst (λ (z : ℕ). z + 1 < 18446744073709551616) (sym got) ((q.fits.each_got s near).3 x held_is) in
    let ringed = fits_first _ _ _ _ _ _ _ _ _ _ _ _ q.fits s x near c.seek.ensures.turn held_is given in let first = cell_first m.1 (oldest_of p s) (behind (held p) f.peers s) ringed in
    (x, held_is, given)

pub give_back-requires-clause-count : goal.give_back-requires-clause-count
give_back-requires-clause-count c = let q = c.seek.new.self in let P = c.args.self.now in let f = arc_value q.fabric in let s : ℕ = c.args.src in let m : Sat = q.seat.seat.me in let p : Part = part_at m.0 0 in let p₀ : Part = part_at P.seat.seat.me.0 0 in let u₀ : In = in_at p₀ s in
    let pq : p ≡ with_in p₀ s (freed_one u₀) p₀.moves = c.seek.ensures.part ∙ c.free.ensures.part in let inside₀ : s < length p₀.ins = subst (λ (z : ℕ). s < z) (sym P.fits.all_ins) c.requires.0 in
    let uq : in_at p s ≡ freed_one u₀ = ap (λ (z : Part). in_at z s) pq ∙ get_or-set_same p₀.ins s (freed_one u₀) new_in inside₀ in let open₀ = opened_is u₀.opened c.requires.1 in let x : Sent = open₀.0 in
    let held_is : (in_at p s).opened ≡ Some x = ap (λ (z : In). z.opened) uq ∙ open₀.1 in let given : (in_at p s).lent ≡ false = ap (λ (z : In). z.lent) uq in
    let near : s < f.peers = subst (λ t. s < t.peers) (sym (c.seek.ensures.port.0 ∙ c.free.ensures.port.0)) c.requires.0 in let inside : s < length p.ins = subst (λ (z : ℕ). s < z) (sym q.fits.all_ins) near in
    let got = got_len _ _ _ _ _ _ _ _ _ _ _ _ q.fits s c.index-got.result.now near c.index-got.ensures in let few : c.index-got.result.now + 1 < 18446744073709551616 = subst (λ (z : ℕ). z + 1 < 18446744073709551616) (sym got) ((q.fits.each_got s near).3 x held_is) in
    let ringed = fits_first _ _ _ _ _ _ _ _ _ _ _ _ q.fits s x near c.seek.ensures.turn held_is given in let first = cell_first m.1 (oldest_of p s) (behind (held p) f.peers s) ringed in
    (got, few)

pub give_back-requires-clause-cell : goal.give_back-requires-clause-cell
give_back-requires-clause-cell c = let q = c.seek.new.self in let P = c.args.self.now in let f = arc_value q.fabric in let s : ℕ = c.args.src in let m : Sat = q.seat.seat.me in let p : Part = part_at m.0 0 in let p₀ : Part = part_at P.seat.seat.me.0 0 in let u₀ : In = in_at p₀ s in
    let pq : p ≡ with_in p₀ s (freed_one u₀) p₀.moves = c.seek.ensures.part ∙ c.free.ensures.part in let inside₀ : s < length p₀.ins = subst (λ (z : ℕ). s < z) (sym P.fits.all_ins) c.requires.0 in
    let uq : in_at p s ≡ freed_one u₀ = ap (λ (z : Part). in_at z s) pq ∙ get_or-set_same p₀.ins s (freed_one u₀) new_in inside₀ in let open₀ = opened_is u₀.opened c.requires.1 in let x : Sent = open₀.0 in
    let held_is : (in_at p s).opened ≡ Some x = ap (λ (z : In). z.opened) uq ∙ open₀.1 in let given : (in_at p s).lent ≡ false = ap (λ (z : In). z.lent) uq in
    let near : s < f.peers = subst (λ t. s < t.peers) (sym (c.seek.ensures.port.0 ∙ c.free.ensures.port.0)) c.requires.0 in let inside : s < length p.ins = subst (λ (z : ℕ). s < z) (sym q.fits.all_ins) near in
    let got = got_len _ _ _ _ _ _ _ _ _ _ _ _ q.fits s c.index-got.result.now near c.index-got.ensures in let few : c.index-got.result.now + 1 < 18446744073709551616 = subst (λ (z : ℕ). z + 1 < 18446744073709551616) (sym got) ((q.fits.each_got s near).3 x held_is) in
    let ringed = fits_first _ _ _ _ _ _ _ _ _ _ _ _ q.fits s x near c.seek.ensures.turn held_is given in let first = cell_first m.1 (oldest_of p s) (behind (held p) f.peers s) ringed in
    (first.0, first.1)

pub overflow_add-got : goal.overflow_add-got
overflow_add-got c = let q = c.seek.new.self in let P = c.args.self.now in let f = arc_value q.fabric in let s : ℕ = c.args.src in let m : Sat = q.seat.seat.me in let p : Part = part_at m.0 0 in let p₀ : Part = part_at P.seat.seat.me.0 0 in let u₀ : In = in_at p₀ s in
    let pq : p ≡ with_in p₀ s (freed_one u₀) p₀.moves = c.seek.ensures.part ∙ c.free.ensures.part in let inside₀ : s < length p₀.ins = subst (λ (z : ℕ). s < z) (sym P.fits.all_ins) c.requires.0 in
    let uq : in_at p s ≡ freed_one u₀ = ap (λ (z : Part). in_at z s) pq ∙ get_or-set_same p₀.ins s (freed_one u₀) new_in inside₀ in let open₀ = opened_is u₀.opened c.requires.1 in let x : Sent = open₀.0 in
    let held_is : (in_at p s).opened ≡ Some x = ap (λ (z : In). z.opened) uq ∙ open₀.1 in let given : (in_at p s).lent ≡ false = ap (λ (z : In). z.lent) uq in
    let near : s < f.peers = subst (λ t. s < t.peers) (sym (c.seek.ensures.port.0 ∙ c.free.ensures.port.0)) c.requires.0 in let inside : s < length p.ins = subst (λ (z : ℕ). s < z) (sym q.fits.all_ins) near in
    let got = got_len _ _ _ _ _ _ _ _ _ _ _ _ q.fits s c.index-got.result.now near c.index-got.ensures in let few : c.index-got.result.now + 1 < 18446744073709551616 = subst (λ (z : ℕ). z + 1 < 18446744073709551616) (sym got) ((q.fits.each_got s near).3 x held_is) in
    let ringed = fits_first _ _ _ _ _ _ _ _ _ _ _ _ q.fits s x near c.seek.ensures.turn held_is given in let first = cell_first m.1 (oldest_of p s) (behind (held p) f.peers s) ringed in
    record { fits = few }

pub overflow_sub-self : goal.overflow_sub-self
overflow_sub-self c = let q = c.seek.new.self in let P = c.args.self.now in let f = arc_value q.fabric in let s : ℕ = c.args.src in let m : Sat = q.seat.seat.me in let p : Part = part_at m.0 0 in let p₀ : Part = part_at P.seat.seat.me.0 0 in let u₀ : In = in_at p₀ s in
    let pq : p ≡ with_in p₀ s (freed_one u₀) p₀.moves = c.seek.ensures.part ∙ c.free.ensures.part in let inside₀ : s < length p₀.ins = subst (λ (z : ℕ). s < z) (sym P.fits.all_ins) c.requires.0 in
    let uq : in_at p s ≡ freed_one u₀ = ap (λ (z : Part). in_at z s) pq ∙ get_or-set_same p₀.ins s (freed_one u₀) new_in inside₀ in let open₀ = opened_is u₀.opened c.requires.1 in let x : Sent = open₀.0 in
    let held_is : (in_at p s).opened ≡ Some x = ap (λ (z : In). z.opened) uq ∙ open₀.1 in let given : (in_at p s).lent ≡ false = ap (λ (z : In). z.lent) uq in
    let near : s < f.peers = subst (λ t. s < t.peers) (sym (c.seek.ensures.port.0 ∙ c.free.ensures.port.0)) c.requires.0 in let inside : s < length p.ins = subst (λ (z : ℕ). s < z) (sym q.fits.all_ins) near in
    let last = ups_less q.open_count q.opened.items s q.counted (subst (λ (z : ℕ). s < z) (sym q.fits.all_open) near) ((q.fits.each_got s near).1 ∙ ap is_some held_is) in omega arith

pub cell_after-requires : goal.cell_after-requires
cell_after-requires c = let q = c.seek.new.self in let P = c.args.self.now in let f = arc_value q.fabric in let s : ℕ = c.args.src in let m : Sat = q.seat.seat.me in let p : Part = part_at m.0 0 in let p₀ : Part = part_at P.seat.seat.me.0 0 in let u₀ : In = in_at p₀ s in
    let pq : p ≡ with_in p₀ s (freed_one u₀) p₀.moves = c.seek.ensures.part ∙ c.free.ensures.part in let inside₀ : s < length p₀.ins = subst (λ (z : ℕ). s < z) (sym P.fits.all_ins) c.requires.0 in
    let uq : in_at p s ≡ freed_one u₀ = ap (λ (z : Part). in_at z s) pq ∙ get_or-set_same p₀.ins s (freed_one u₀) new_in inside₀ in let open₀ = opened_is u₀.opened c.requires.1 in let x : Sent = open₀.0 in
    let held_is : (in_at p s).opened ≡ Some x = ap (λ (z : In). z.opened) uq ∙ open₀.1 in let given : (in_at p s).lent ≡ false = ap (λ (z : In). z.lent) uq in
    let near : s < f.peers = subst (λ t. s < t.peers) (sym (c.seek.ensures.port.0 ∙ c.free.ensures.port.0)) c.requires.0 in let inside : s < length p.ins = subst (λ (z : ℕ). s < z) (sym q.fits.all_ins) near in
    let got = got_len _ _ _ _ _ _ _ _ _ _ _ _ q.fits s c.index-got.result.now near c.index-got.ensures in let few : c.index-got.result.now + 1 < 18446744073709551616 = subst (λ (z : ℕ). z + 1 < 18446744073709551616) (sym got) ((q.fits.each_got s near).3 x held_is) in
    let rooms : c.room.result ≡ f.room = c.room.ensures ∙ ap (λ t. t.room) c.deref-2.ensures in let cell : c.index-cell.result.now ≡ c.index-got.result.now % f.room = got_cell _ _ _ _ _ _ q.rounds s c.index-got.result.now c.index-cell.result.now near (got ∙ sym (q.fits.each_got s near).0) c.index-cell.ensures in
    subst (λ (z : ℕ). z < c.room.result) (sym (cell ∙ (λ i. c.index-got.result.now % sym rooms i))) (mod-lt c.index-got.result.now (subst (λ (z : ℕ). 0 < z) (sym rooms) f.sized.3))

pub invariant_of-self : goal.invariant_of-self
invariant_of-self c = let q = c.seek.new.self in let P = c.args.self.now in let f = arc_value q.fabric in let s : ℕ = c.args.src in let m : Sat = q.seat.seat.me in let p : Part = part_at m.0 0 in let p₀ : Part = part_at P.seat.seat.me.0 0 in let u₀ : In = in_at p₀ s in
    let pq : p ≡ with_in p₀ s (freed_one u₀) p₀.moves = c.seek.ensures.part ∙ c.free.ensures.part in let inside₀ : s < length p₀.ins = subst (λ (z : ℕ). s < z) (sym P.fits.all_ins) c.requires.0 in
    let uq : in_at p s ≡ freed_one u₀ = ap (λ (z : Part). in_at z s) pq ∙ get_or-set_same p₀.ins s (freed_one u₀) new_in inside₀ in let open₀ = opened_is u₀.opened c.requires.1 in let x : Sent = open₀.0 in
    let held_is : (in_at p s).opened ≡ Some x = ap (λ (z : In). z.opened) uq ∙ open₀.1 in let given : (in_at p s).lent ≡ false = ap (λ (z : In). z.lent) uq in
    let near : s < f.peers = subst (λ t. s < t.peers) (sym (c.seek.ensures.port.0 ∙ c.free.ensures.port.0)) c.requires.0 in let inside : s < length p.ins = subst (λ (z : ℕ). s < z) (sym q.fits.all_ins) near in
    let got = got_len _ _ _ _ _ _ _ _ _ _ _ _ q.fits s c.index-got.result.now near c.index-got.ensures in let few : c.index-got.result.now + 1 < 18446744073709551616 = subst (λ (z : ℕ). z + 1 < 18446744073709551616) (sym got) ((q.fits.each_got s near).3 x held_is) in
    let ringed = fits_first _ _ _ _ _ _ _ _ _ _ _ _ q.fits s x near c.seek.ensures.turn held_is given in let first = cell_first m.1 (oldest_of p s) (behind (held p) f.peers s) ringed in
    let last = ups_less q.open_count q.opened.items s q.counted (subst (λ (z : ℕ). s < z) (sym q.fits.all_open) near) ((q.fits.each_got s near).1 ∙ ap is_some held_is) in let less : q.open_count - 1 ≡ ups (set q.opened.items s false) = omega arith in
    let cmd : Command = c.index.result.now in let there = slice_get-get_or q.commands.items s cmd (subst (λ (z : ℕ). s < z) (sym q.told.all_commands) near) ∙ (λ i. Some (sym c.index.ensures i)) in let says = (q.told.says s cmd x there held_is).1 in
    let there' = slice_get-get_or q.commands.items s c.index-2.result.now (subst (λ (z : ℕ). s < z) (sym q.told.all_commands) near) ∙ (λ i. Some (sym c.index-2.ensures i)) in let said = (q.told.says s c.index-2.result.now x there' held_is).1 in
    let rooms : c.room.result ≡ f.room = c.room.ensures ∙ ap (λ t. t.room) c.deref-2.ensures in let cell : c.index-cell.result.now ≡ c.index-got.result.now % f.room = got_cell _ _ _ _ _ _ q.rounds s c.index-got.result.now c.index-cell.result.now near (got ∙ sym (q.fits.each_got s near).0) c.index-cell.ensures in
    let u' : In = taken_one (in_at p s) x in let ms : List Move = p.moves ++ Take s x.number ∷ [] in let all = in_all m _ s u' ms (rest m.1) q.at.1 (c.give_back.ensures.view x held_is) in
    let shaped : shapes (rest m.1) ≡ rest (shapes m.1) = first.2 ∙ sym (ap rest ringed) in record {
      at = (c.give_back.ensures.seat.0 ∙ q.at.0, all.0);
      fits = subst (λ (z : Part × List (ℕ × Slot)). Fits q.me f.peers f.room f.pool c.max-self.result q.turn q.puts.items (set q.gots.items s (c.index-got.result.now + 1)) (set q.opened.items s false) q.lent.items z.0 (shapes z.1)) (λ i. (sym all.1 i, sym all.2 i))
          (subst (Fits q.me f.peers f.room f.pool c.max-self.result q.turn q.puts.items (set q.gots.items s (c.index-got.result.now + 1)) (set q.opened.items s false) q.lent.items (with_in p s u' ms)) (sym shaped)
          (fits_take _ _ _ _ _ _ _ _ _ _ _ _ q.fits s (c.index-got.result.now + 1) c.max-self.result x near c.seek.ensures.turn held_is given (ap (λ (z : ℕ). z + 1) (got ∙ sym (q.fits.each_got s near).0)) (c.max-self.ensures ∙ ap (max q.clock) says.0)));
      rounds = rounds_got _ _ _ _ _ _ q.rounds s (c.index-got.result.now + 1) c.cell_after.result near (subst (λ (z : ℕ). s < z) (sym q.fits.all_gots) near) (c.cell_after.ensures c.index-got.result.now (cell ∙ (λ i. c.index-got.result.now % sym rooms i)) ∙ (λ i. (c.index-got.result.now + 1) % rooms i));
      sees = subst (Sees f.peers q.gots_seen.items) (sym all.1) (sees_in _ _ p q.sees s u' ms);
      told = subst (Told f.peers q.commands.items q.buffers.items) (sym all.1) (told_in _ _ _ p s u' ms inside (λ y e. absurd (none-some y e)) q.told);
      ends = subst (λ (z : Part). Ends f.peers q.posted_ends.items (set q.taken_ends.items s c.overwrite.new.end) z) (sym all.1) (subst (λ (h : Option FrameHead). Ends f.peers q.posted_ends.items (set q.taken_ends.items s h) (with_in p s u' ms)) (sym c.overwrite.ensures) (ends_take _ _ _ p s u' x c.index-2.result.now.head ms near inside refl said.2 q.ends));
      counted = less;
      comes = subst (λ (z : Part). ∥ Comes z ∥₁) (sym all.1) ∣ comes_in p s u' ms inside (λ y e. absurd (none-some y e)) (comes_now p q.comes) ∣₁;
    }

pub returns-clause-taken : goal.returns-clause-taken
returns-clause-taken c = let q = c.seek.new.self in let P = c.args.self.now in let f = arc_value q.fabric in let s : ℕ = c.args.src in let m : Sat = q.seat.seat.me in let p : Part = part_at m.0 0 in let p₀ : Part = part_at P.seat.seat.me.0 0 in let u₀ : In = in_at p₀ s in
    let pq : p ≡ with_in p₀ s (freed_one u₀) p₀.moves = c.seek.ensures.part ∙ c.free.ensures.part in let inside₀ : s < length p₀.ins = subst (λ (z : ℕ). s < z) (sym P.fits.all_ins) c.requires.0 in
    let uq : in_at p s ≡ freed_one u₀ = ap (λ (z : Part). in_at z s) pq ∙ get_or-set_same p₀.ins s (freed_one u₀) new_in inside₀ in let open₀ = opened_is u₀.opened c.requires.1 in let x : Sent = open₀.0 in
    let held_is : (in_at p s).opened ≡ Some x = ap (λ (z : In). z.opened) uq ∙ open₀.1 in let given : (in_at p s).lent ≡ false = ap (λ (z : In). z.lent) uq in
    let near : s < f.peers = subst (λ t. s < t.peers) (sym (c.seek.ensures.port.0 ∙ c.free.ensures.port.0)) c.requires.0 in let inside : s < length p.ins = subst (λ (z : ℕ). s < z) (sym q.fits.all_ins) near in
    let got = got_len _ _ _ _ _ _ _ _ _ _ _ _ q.fits s c.index-got.result.now near c.index-got.ensures in let few : c.index-got.result.now + 1 < 18446744073709551616 = subst (λ (z : ℕ). z + 1 < 18446744073709551616) (sym got) ((q.fits.each_got s near).3 x held_is) in
    let ringed = fits_first _ _ _ _ _ _ _ _ _ _ _ _ q.fits s x near c.seek.ensures.turn held_is given in let first = cell_first m.1 (oldest_of p s) (behind (held p) f.peers s) ringed in
    let cmd : Command = c.index.result.now in let there = slice_get-get_or q.commands.items s cmd (subst (λ (z : ℕ). s < z) (sym q.told.all_commands) near) ∙ (λ i. Some (sym c.index.ensures i)) in let says = (q.told.says s cmd x there held_is).1 in
    let u' : In = taken_one (in_at p s) x in let ms : List Move = p.moves ++ Take s x.number ∷ [] in let all = in_all m _ s u' ms (rest m.1) q.at.1 (c.give_back.ensures.view x held_is) in
    λ y e. let same : x ≡ y = same_Some x y (sym open₀.1 ∙ e) in
    all.1 ∙ (λ i. with_in (pq i) s (taken_one (uq i) x) ((pq i).moves ++ Take s x.number ∷ [])) ∙ in_over p₀ s (freed_one u₀) (taken_one u₀ x) p₀.moves (p₀.moves ++ Take s x.number ∷ []) ∙ (λ i. with_in p₀ s (taken_one u₀ (same i)) (p₀.moves ++ Take s (same i).number ∷ []))
