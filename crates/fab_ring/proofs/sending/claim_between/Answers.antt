use Rattle.std.proofs.Common.{◌≡◌, ℕ, ◌+◌, ◌*◌, ◌<◌, List, [], ◌∷◌, length, sym, refl, ap, ◌∙◌, subst, arith, inl}
use Rattle.std.specs.Prelude.{Some, None}
use Rattle.std.proofs.lemmas.Option.{same_Some}
use Rattle.atomic_table.specs.Table.{rest}
use Rattle.fab_table.specs.declared.kinds.Command.{Command}
use Rattle.fab_table.specs.declared.kinds.Slot.{Slot}
use Rattle.fab_table.specs.declared.kinds.Slot.TheVariants.{Cell, Pool}
use Rattle.fab_table.specs.declared.kinds.Out.{Out}
use Rattle.fab_table.specs.declared.kinds.Part.{Part}
use Rattle.fab_table.specs.declared.kinds.View.{View}
use Rattle.fab_table.specs.Views.{part_at, out_at, with_out}
use Rattle.fab_table.specs.Plays.{Sat, new_out_view, slot_home}
use Rattle.fab_table.specs.Seats.{carried, view_of_seat, sat, out_of, named}
use Rattle.fab_table.proofs.Rows.{pair_below}
use Rattle.fab_ring.specs.Tries.{IsTriedFrom, tried_out}
use Rattle.fab_ring.proofs.Ends.{one_set, the_buffer, tried_next, tried_last, untried, here_out, part_out}
use Rattle.fab_ring.proofs.Trying.{between_none, tried_from_up}
use Rattle.fab_ring.proofs.sending.claim_between.Goals as goal

pub loop-j-init : goal.loop-j-init
loop-j-init c = let v : View = view_of_seat c.args.seat.now in let d : ℕ = c.args.next.now.dest in let a = c.requires.alone in let h = c.requires.hand in let low : d < length (part_at v 0).outs = subst (λ (z : ℕ). d < z) (sym a.all_outs) c.requires.below in let o : Out = out_at (part_at v 0) d in
    ((omega arith, c.requires.range.0), (refl, refl), (h.0, o.tried, o.full_at, (between_none c.args.from o.tried, inl (refl, refl)), (λ i. (sym (untried v d a.one low c.requires.idle) i, h.1 i)), λ k q e. λ i. named (same_cell (sym h.1 ∙ e) i) q))
  where
    cell_or : Command → List (ℕ × Slot) → Command
    cell_or k [] = k
    cell_or k (z ∷ zs) = elim z.1 [ Cell x ↦ x | Pool b ↦ k ]

    same_cell : {a b : ℕ} {x y : Command} {l m : List (ℕ × Slot)} → (a, Cell x) ∷ l ≡ (b, Cell y) ∷ m → x ≡ y
    same_cell {x = x} e = ap (cell_or x) e

pub name_slot-requires-clause-seat : goal.name_slot-requires-clause-seat
name_slot-requires-clause-seat c = c.loop-j.invariant.1.0 ∙ c.requires.alone.of

pub name_slot-requires-clause-hand : goal.name_slot-requires-clause-hand
name_slot-requires-clause-hand c = let i = c.loop-j.invariant.2 in let e = ap (λ (m : Sat). m.1) i.4 in (i.0, e ∙ (λ k. (c.args.next.now.place, Cell i.0) ∷ sym (ap rest e) k))

pub claim-requires-clause-seat : goal.claim-requires-clause-seat
claim-requires-clause-seat c = let v : View = view_of_seat c.args.seat.now in let d : ℕ = c.args.next.now.dest in let a = c.requires.alone in let low : d < length (part_at v 0).outs = subst (λ (z : ℕ). d < z) (sym a.all_outs) c.requires.below in let o : Out = out_at (part_at v 0) d in
    let i = c.loop-j.invariant.2 in let j : ℕ = c.loop-j.j in let place : ℕ = c.args.next.now.place in let slot : ℕ = d * c.pool-pool.result + j in let hand : List (ℕ × Slot) = rest (carried c.args.seat.now) in let o₁ : Out = tried_out o i.1 i.2 o.writing None in
    let e = ap (λ (m : Sat). m.1) i.4 in let named_it = c.name_slot.ensures.view i.0 (e ∙ (λ k. (place, Cell i.0) ∷ sym (ap rest e) k)) in
    let now : sat c.name_slot.new.seat ≡ (new_out_view v 0 d o₁, (place, Cell (named i.0 slot)) ∷ hand) = named_it ∙ (λ k. ((i.4 k).0, (place, Cell (named i.0 slot)) ∷ rest (i.4 k).1)) in
    let part = part_out v d a.one low o₁ in (
      c.name_slot.ensures.seat.0 ∙ c.loop-j.invariant.1.0 ∙ a.of,
      subst (λ (m : Sat). (0 < length m.0.parts) × ((part_at m.0 0).me ≡ c.args.next.now.me) × ((part_at m.0 0).peers ≡ c.args.fabric.now.peers) × (c.args.next.now.me < c.args.fabric.now.peers)) (sym now)
          ((let one = one_set v (with_out (part_at v 0) d o₁ (part_at v 0).moves) a.one in omega arith), ap (λ (z : Part). z.me) part ∙ a.me_is, ap (λ (z : Part). z.peers) part ∙ a.peers, a.below),
      c.requires.below,
    )

pub claim-requires-clause-slot : goal.claim-requires-clause-slot
claim-requires-clause-slot c = let v : View = view_of_seat c.args.seat.now in let d : ℕ = c.args.next.now.dest in let a = c.requires.alone in let low : d < length (part_at v 0).outs = subst (λ (z : ℕ). d < z) (sym a.all_outs) c.requires.below in let o : Out = out_at (part_at v 0) d in
    let i = c.loop-j.invariant.2 in let j : ℕ = c.loop-j.j in let place : ℕ = c.args.next.now.place in let slot : ℕ = d * c.pool-pool.result + j in let hand : List (ℕ × Slot) = rest (carried c.args.seat.now) in let o₁ : Out = tried_out o i.1 i.2 o.writing None in
    let e = ap (λ (m : Sat). m.1) i.4 in let named_it = c.name_slot.ensures.view i.0 (e ∙ (λ k. (place, Cell i.0) ∷ sym (ap rest e) k)) in
    let now : sat c.name_slot.new.seat ≡ (new_out_view v 0 d o₁, (place, Cell (named i.0 slot)) ∷ hand) = named_it ∙ (λ k. ((i.4 k).0, (place, Cell (named i.0 slot)) ∷ rest (i.4 k).1)) in
    let part = part_out v d a.one low o₁ in
    ((let t = c.loop-j-test.true in let p = c.requires.range.1 in omega arith), ap (λ (m : Sat). (part_at m.0 0).pool) now ∙ ap (λ (z : Part). z.pool) part ∙ a.pool)

pub claim-requires-clause-idle : goal.claim-requires-clause-idle
claim-requires-clause-idle c = let v : View = view_of_seat c.args.seat.now in let d : ℕ = c.args.next.now.dest in let a = c.requires.alone in let low : d < length (part_at v 0).outs = subst (λ (z : ℕ). d < z) (sym a.all_outs) c.requires.below in let o : Out = out_at (part_at v 0) d in
    let i = c.loop-j.invariant.2 in let j : ℕ = c.loop-j.j in let place : ℕ = c.args.next.now.place in let slot : ℕ = d * c.pool-pool.result + j in let hand : List (ℕ × Slot) = rest (carried c.args.seat.now) in let o₁ : Out = tried_out o i.1 i.2 o.writing None in
    let e = ap (λ (m : Sat). m.1) i.4 in let named_it = c.name_slot.ensures.view i.0 (e ∙ (λ k. (place, Cell i.0) ∷ sym (ap rest e) k)) in
    let now : sat c.name_slot.new.seat ≡ (new_out_view v 0 d o₁, (place, Cell (named i.0 slot)) ∷ hand) = named_it ∙ (λ k. ((i.4 k).0, (place, Cell (named i.0 slot)) ∷ rest (i.4 k).1)) in
    let part = part_out v d a.one low o₁ in
    ap (λ (m : Sat). (out_at (part_at m.0 0) d).claim) now ∙ ap (λ (z : Out). z.claim) (here_out v d a.one low o₁)

pub returns-then-claim-clause-seat : goal.returns-then-claim-clause-seat
returns-then-claim-clause-seat c = let i = c.loop-j.invariant in (c.claim.ensures.seat.0 ∙ c.name_slot.ensures.seat.0 ∙ i.1.0, c.claim.ensures.seat.1 ∙ c.name_slot.ensures.seat.1 ∙ i.1.1)

pub returns-then-claim-clause-some : goal.returns-then-claim-clause-some
returns-then-claim-clause-some c = let v : View = view_of_seat c.args.seat.now in let d : ℕ = c.args.next.now.dest in let a = c.requires.alone in let low : d < length (part_at v 0).outs = subst (λ (z : ℕ). d < z) (sym a.all_outs) c.requires.below in let o : Out = out_at (part_at v 0) d in
    let i = c.loop-j.invariant.2 in let j : ℕ = c.loop-j.j in let place : ℕ = c.args.next.now.place in let slot : ℕ = d * c.pool-pool.result + j in let hand : List (ℕ × Slot) = rest (carried c.args.seat.now) in let o₁ : Out = tried_out o i.1 i.2 o.writing None in
    let e = ap (λ (m : Sat). m.1) i.4 in let named_it = c.name_slot.ensures.view i.0 (e ∙ (λ k. (place, Cell i.0) ∷ sym (ap rest e) k)) in
    let now : sat c.name_slot.new.seat ≡ (new_out_view v 0 d o₁, (place, Cell (named i.0 slot)) ∷ hand) = named_it ∙ (λ k. ((i.4 k).0, (place, Cell (named i.0 slot)) ∷ rest (i.4 k).1)) in
    let part = part_out v d a.one low o₁ in let k = c.claim.ensures.view in let hit = k.2.0 (k.1.0 c.if-claim.true) in let b = the_buffer hit.0 hit.1 in let pool : ℕ = c.args.fabric.now.pool in
    let last = tried_last v d a.one low _ _ _ place (d * pool + j) i.2 i.1 b.0 i.0 (named i.0 slot) hit.0 hand i.4 named_it hit.2 b.1 in
    λ c' q there same. let to : slot ≡ q = same_Some slot q same in let from : d * pool + j ≡ q = (λ t. d * sym c.pool-pool.ensures t + j) ∙ to in (
      b.0,
      j,
      i.1,
      i.2,
      b.2,
      c.loop-j.invariant.0.0,
      c.loop-j-test.true,
      subst (λ (z : ℕ). z < c.args.fabric.now.peers * pool) from (pair_below pool c.args.fabric.now.peers d j c.requires.below (let t = c.loop-j-test.true in let p = c.requires.range.1 in omega arith)),
      i.3,
      last ∙ (λ t. (new_out_view v 0 d (tried_out o i.1 i.2 o.writing (Some (from t))), (slot_home v 0 (from t), Pool b.0) ∷ (place, Cell (i.5 c' slot there t)) ∷ hand)) ∙ (λ t. (new_out_view v 0 d (tried_out o i.1 i.2 o.writing (Some q)), (slot_home v 0 q, Pool b.0) ∷ (place, Cell (named c' (to t))) ∷ hand)),
    )

pub loop-j-preserved : goal.loop-j-preserved
loop-j-preserved c = let v : View = view_of_seat c.args.seat.now in let d : ℕ = c.args.next.now.dest in let a = c.requires.alone in let low : d < length (part_at v 0).outs = subst (λ (z : ℕ). d < z) (sym a.all_outs) c.requires.below in let o : Out = out_at (part_at v 0) d in
    let i = c.loop-j.invariant.2 in let j : ℕ = c.loop-j.j in let place : ℕ = c.args.next.now.place in let slot : ℕ = d * c.pool-pool.result + j in let hand : List (ℕ × Slot) = rest (carried c.args.seat.now) in let o₁ : Out = tried_out o i.1 i.2 o.writing None in
    let e = ap (λ (m : Sat). m.1) i.4 in let named_it = c.name_slot.ensures.view i.0 (e ∙ (λ k. (place, Cell i.0) ∷ sym (ap rest e) k)) in
    let now : sat c.name_slot.new.seat ≡ (new_out_view v 0 d o₁, (place, Cell (named i.0 slot)) ∷ hand) = named_it ∙ (λ k. ((i.4 k).0, (place, Cell (named i.0 slot)) ∷ rest (i.4 k).1)) in
    let part = part_out v d a.one low o₁ in let k = c.claim.ensures.view in let miss = k.2.1 (k.1.1 c.if-claim.false) in let inv = c.loop-j.invariant in (
      ((let g = inv.0.0 in omega arith), (let t = c.loop-j-test.true in omega arith)),
      (c.claim.ensures.seat.0 ∙ c.name_slot.ensures.seat.0 ∙ inv.1.0, c.claim.ensures.seat.1 ∙ c.name_slot.ensures.seat.1 ∙ inv.1.1),
      (
        named i.0 slot,
        _,
        _,
        tried_from_up o c.args.from j i.1 i.2 i.3 inv.0.0 (let t = c.loop-j-test.true in let p = c.requires.range.1 in let w = c.requires.sized in omega arith),
        tried_next v d a.one low _ _ _ j place i.2 i.1 i.0 (named i.0 slot) hand i.4 named_it miss,
        λ k q there. i.5 k q there,
      ),
    )

pub returns-clause-seat : goal.returns-clause-seat
returns-clause-seat c = c.loop-j.invariant.1

pub returns-clause-none : goal.returns-clause-none
returns-clause-none c = let i = c.loop-j.invariant.2 in let all : c.loop-j.j ≡ c.args.to = (let t = c.loop-j-test.false in let le = c.loop-j.invariant.0.1 in omega arith) in
    λ _. (i.0, i.1, i.2, subst (λ (z : ℕ). IsTriedFrom (out_of c.args.seat.now 0 c.args.next.now.dest) c.args.from z i.1 i.2) all i.3, i.4, i.5)
