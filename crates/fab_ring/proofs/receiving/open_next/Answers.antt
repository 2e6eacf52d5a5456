use Rattle.std.proofs.Common.{◌≡◌, ℕ, ◌+◌, ◌*◌, ◌<◌, [], ◌∷◌, ◌++◌, length, take, sym, ap, ◌∙◌, subst, arith}
use Rattle.std.specs.Prelude.{Some}
use Rattle.atomic_table.specs.Table.{rest, turned}
use Rattle.fab_table.specs.declared.kinds.Sent.{Sent}
use Rattle.fab_table.specs.declared.kinds.Slot.{Slot}
use Rattle.fab_table.specs.declared.kinds.Slot.TheVariants.{Pool}
use Rattle.fab_table.specs.declared.kinds.In.{In}
use Rattle.fab_table.specs.declared.kinds.View.{View}
use Rattle.fab_table.specs.Views.{part_at, in_at, saw_frame}
use Rattle.fab_table.specs.Plays.{Sat, new_in_view, oldest_cell, slot_home}
use Rattle.fab_table.specs.Seats.{view_of_seat, sat}
use Rattle.fab_ring.proofs.Hold.{home_small}
use Rattle.fab_ring.proofs.Ends.{the_filled, the_said, same_buffer, opened_all, found_first, found_pooled, oldest_at}
use Rattle.fab_ring.proofs.receiving.open_next.Goals as goal

pub overflow_add-home : goal.overflow_add-home
overflow_add-home c = let v : View = view_of_seat c.args.seat.now in let s : ℕ = c.args.next.now.src in let a = c.requires.alone in let u : In = in_at (part_at v 0) s in let m : Sat = sat c.args.seat.now in let m₁ : Sat = sat c.look_put-put.new.seat in let slot : ℕ = c.in-Some.slot in
    let saw = c.look_put-put.ensures.view in let r : ℕ = c.look_put-put.result in let news : length u.taken < r = (let le = saw.0 in let other = c.if-put-next.false in let e = c.requires.count in omega arith) in let took = saw.2 news in let x : Sent = took.0 in let y : Slot = took.1 in
    let v₁ : View = new_in_view v 0 s (saw_frame u r x) in let old : ℕ = oldest_cell v 0 s in let most : ℕ = (part_at v 0).peers * (part_at v 0).pool in
    let placed : c.cell_place-place.result ≡ old = c.cell_place-place.ensures ∙ oldest_at c.args.fabric.now.peers c.args.fabric.now.room s c.args.next.now.me c.args.next.now.got c.args.next.now.cell (part_at v 0) a.peers a.room a.me_is c.requires.count c.requires.cell in
    let first = found_first m m₁ v₁ old most (slot_home v 0) x y took.3 in let there = subst (λ (z : Sat). z.1 ≡ (c.cell_place-place.result, y) ∷ rest z.1) (sym first.1) (λ i. (sym placed i, y) ∷ first.0) in
    let says = c.read.ensures.says x y there took.2.2 took.2.1 in let large : x.slot ≡ Some slot = sym says.1 ∙ c.in-Some.is in let long = found_pooled m m₁ v₁ old most (slot_home v 0) x y slot took.3 large in
    let low : slot < c.args.fabric.now.peers * c.args.fabric.now.pool = subst (λ (z : ℕ × ℕ). slot < z.0 * z.1) (λ i. (a.peers i, a.pool i)) long.2 in let f = c.args.fabric.now in
    record { fits = subst (λ (z : ℕ × ℕ). z.0 * z.0 * z.1 + slot < 18446744073709551616) (λ i. (sym c.peers-peers.ensures i, sym c.room.ensures i)) (home_small f.peers f.room f.pool slot f.sized.6 f.sized.4 f.sized.8 low) }

pub swap-requires-clause-hand : goal.swap-requires-clause-hand
swap-requires-clause-hand c = let v : View = view_of_seat c.args.seat.now in let s : ℕ = c.args.next.now.src in let a = c.requires.alone in let u : In = in_at (part_at v 0) s in let m : Sat = sat c.args.seat.now in let m₁ : Sat = sat c.look_put-put.new.seat in let slot : ℕ = c.in-Some.slot in
    let saw = c.look_put-put.ensures.view in let r : ℕ = c.look_put-put.result in let news : length u.taken < r = (let le = saw.0 in let other = c.if-put-next.false in let e = c.requires.count in omega arith) in let took = saw.2 news in let x : Sent = took.0 in let y : Slot = took.1 in
    let v₁ : View = new_in_view v 0 s (saw_frame u r x) in let old : ℕ = oldest_cell v 0 s in let most : ℕ = (part_at v 0).peers * (part_at v 0).pool in
    let placed : c.cell_place-place.result ≡ old = c.cell_place-place.ensures ∙ oldest_at c.args.fabric.now.peers c.args.fabric.now.room s c.args.next.now.me c.args.next.now.got c.args.next.now.cell (part_at v 0) a.peers a.room a.me_is c.requires.count c.requires.cell in
    let first = found_first m m₁ v₁ old most (slot_home v 0) x y took.3 in let there = subst (λ (z : Sat). z.1 ≡ (c.cell_place-place.result, y) ∷ rest z.1) (sym first.1) (λ i. (sym placed i, y) ∷ first.0) in
    let says = c.read.ensures.says x y there took.2.2 took.2.1 in let large : x.slot ≡ Some slot = sym says.1 ∙ c.in-Some.is in let long = found_pooled m m₁ v₁ old most (slot_home v 0) x y slot took.3 large in
    let low : slot < c.args.fabric.now.peers * c.args.fabric.now.pool = subst (λ (z : ℕ × ℕ). slot < z.0 * z.1) (λ i. (a.peers i, a.pool i)) long.2 in let at : c.peers-peers.result * c.peers-peers.result * c.room.result + slot ≡ slot_home v 0 slot = λ i. (c.peers-peers.ensures ∙ sym a.peers) i * (c.peers-peers.ensures ∙ sym a.peers) i * (c.room.ensures ∙ sym a.room) i + slot in
    let b = the_filled x long.0 long.1 in
    let turned_it = c.turn.ensures.1 ∙ (λ i. (((c.read.ensures.seat.1 ∙ long.3) i).0, turned ((c.read.ensures.seat.1 ∙ long.3) i).1)) in
    (b.0, subst (λ (z : Sat). z.1 ≡ (c.peers-peers.result * c.peers-peers.result * c.room.result + slot, Pool b.0) ∷ rest z.1) (sym turned_it) (λ i. (sym at i, b.1 i) ∷ (m.1 ++ (old, y) ∷ [])))

pub returns-clause-pooled : goal.returns-clause-pooled
returns-clause-pooled c = let v : View = view_of_seat c.args.seat.now in let s : ℕ = c.args.next.now.src in let a = c.requires.alone in let u : In = in_at (part_at v 0) s in let m : Sat = sat c.args.seat.now in let m₁ : Sat = sat c.look_put-put.new.seat in let slot : ℕ = c.in-Some.slot in
    let saw = c.look_put-put.ensures.view in let r : ℕ = c.look_put-put.result in let news : length u.taken < r = (let le = saw.0 in let other = c.if-put-next.false in let e = c.requires.count in omega arith) in let took = saw.2 news in let x : Sent = took.0 in let y : Slot = took.1 in
    let v₁ : View = new_in_view v 0 s (saw_frame u r x) in let old : ℕ = oldest_cell v 0 s in let most : ℕ = (part_at v 0).peers * (part_at v 0).pool in
    let placed : c.cell_place-place.result ≡ old = c.cell_place-place.ensures ∙ oldest_at c.args.fabric.now.peers c.args.fabric.now.room s c.args.next.now.me c.args.next.now.got c.args.next.now.cell (part_at v 0) a.peers a.room a.me_is c.requires.count c.requires.cell in
    let first = found_first m m₁ v₁ old most (slot_home v 0) x y took.3 in let there = subst (λ (z : Sat). z.1 ≡ (c.cell_place-place.result, y) ∷ rest z.1) (sym first.1) (λ i. (sym placed i, y) ∷ first.0) in
    let says = c.read.ensures.says x y there took.2.2 took.2.1 in let large : x.slot ≡ Some slot = sym says.1 ∙ c.in-Some.is in let long = found_pooled m m₁ v₁ old most (slot_home v 0) x y slot took.3 large in
    let low : slot < c.args.fabric.now.peers * c.args.fabric.now.pool = subst (λ (z : ℕ × ℕ). slot < z.0 * z.1) (λ i. (a.peers i, a.pool i)) long.2 in let at : c.peers-peers.result * c.peers-peers.result * c.room.result + slot ≡ slot_home v 0 slot = λ i. (c.peers-peers.ensures ∙ sym a.peers) i * (c.peers-peers.ensures ∙ sym a.peers) i * (c.room.ensures ∙ sym a.room) i + slot in
    let b = the_filled x long.0 long.1 in let cell = the_said x y took.2.2 in
    let all = opened_all m₁ _ _ _ _ (c.peers-peers.result * c.peers-peers.result * c.room.result + slot) old (slot_home v 0 slot) v₁ y long.0 (Pool c.args.buffer.now) m.1 long.3 c.read.ensures.seat.1 c.turn.ensures.1 c.swap.ensures.new at c.turn-2.ensures.1 in
    let same : b.0 ≡ c.swap.new.buffer = same_buffer _ _ _ _ _ b.0 c.swap.new.buffer (ap (λ (z : Sat). z.1) all.0 ∙ (λ i. (slot_home v 0 slot, b.1 i) ∷ (m.1 ++ (old, y) ∷ []))) c.swap.ensures.old in
    let sized : length c.swap.new.buffer ≡ 4096 = ap length (sym same) ∙ b.2 in
    λ _. (
      r,
      x,
      cell.0,
      slot,
      news,
      (let fits = c.look_put-put.type_inv in omega arith),
      large,
      low,
      took.2.0,
      (took.2.1, says, λ q e. (sized, (λ i. take x.frame.head.len (sym same i)) ∙ b.3)),
      sized,
      all.1 ∙ (λ i. (v₁, (m.1 ++ (old, cell.1 i) ∷ []) ++ (slot_home v 0 slot, Pool c.args.buffer.now) ∷ [])),
    )
