use Rattle.std.proofs.Common.{◌≡◌, ℕ, ◌+◌, ◌*◌, sym, ◌∙◌}
use Rattle.std.specs.Prelude.{Some}
use Rattle.fab_table.specs.declared.kinds.Sent.{Sent}
use Rattle.fab_table.specs.declared.kinds.Slot.{Slot}
use Rattle.fab_table.specs.declared.kinds.Slot.TheVariants.{Pool}
use Rattle.fab_table.specs.Plays.{slot_home}
use Rattle.fab_table.specs.Seats.{view_of_seat, sat}
use Rattle.fab_ring.proofs.Lanes.{swap_hand, free_hand}
use Rattle.fab_ring.proofs.emptying.bytes_of.Goals as goal

pub swap-requires-clause-hand : goal.swap-requires-clause-hand
swap-requires-clause-hand c = let f = c.args.fabric.now in let t = c.args.seat.now in let r : ℕ = c.args.next.now.me in let e : ℕ = c.args.next.now.src in let s : ℕ = c.in-Some.slot in let x : Sent = c.requires.open.0 in let y : Slot = c.requires.open.1 in let o = c.requires.open.2 in
    let named : x.slot ≡ Some s = sym c.requires.open.3.1 ∙ c.in-Some.is in let home : ℕ = c.peers-peers.result * c.peers-peers.result * c.room.result + s in
    let home_is : home ≡ slot_home (view_of_seat t) r s = λ i. (c.peers-peers.ensures ∙ sym o.peers) i * (c.peers-peers.ensures ∙ sym o.peers) i * (c.room.ensures ∙ sym o.room) i + s in
    swap_hand f t r e s x y o named (sat c.turn.new.self) c.turn.ensures.1 home home_is

pub free_slot-requires-clause-hand : goal.free_slot-requires-clause-hand
free_slot-requires-clause-hand c = let f = c.args.fabric.now in let t = c.args.seat.now in let r : ℕ = c.args.next.now.me in let e : ℕ = c.args.next.now.src in let s : ℕ = c.in-Some.slot in let x : Sent = c.requires.open.0 in let y : Slot = c.requires.open.1 in let o = c.requires.open.2 in
    let named : x.slot ≡ Some s = sym c.requires.open.3.1 ∙ c.in-Some.is in let home : ℕ = c.peers-peers.result * c.peers-peers.result * c.room.result + s in
    let home_is : home ≡ slot_home (view_of_seat t) r s = λ i. (c.peers-peers.ensures ∙ sym o.peers) i * (c.peers-peers.ensures ∙ sym o.peers) i * (c.room.ensures ∙ sym o.room) i + s in
    (Pool c.args.spare, c.requires.spare, free_hand f t r e s x y o named (sat c.turn.new.self) c.turn.ensures.1 home home_is (sat c.swap.new.seat) c.args.spare c.swap.ensures.new)
