-- The seat that speaks for all peers, and what its steps on one lane leave.
use Rattle.std.proofs.Common.{◌≡◌, ℕ, ◌<◌, ◌≢◌, List, [], ◌++◌, length, sym, ap, ◌∙◌, subst, length-set, append_assoc, get_or-set_same, get_or-set_other}
use mathlib.Core.Logic.{dite}
use mathlib.Core.List.{map-append}
use native.Mathlib.Decide.{ℕ_discrete}
use Rattle.std.specs.Prelude.{None}
use Rattle.fab_link.specs.declared.moves.Move.{Move}
use Rattle.fab_table.specs.declared.lane_table.LaneTable.{LaneTable}
use Rattle.fab_table.specs.declared.lane_table.PeerSeat.{PeerSeat}
use Rattle.fab_table.specs.declared.kinds.Sent.{Sent}
use Rattle.fab_table.specs.declared.kinds.In.{In}
use Rattle.fab_table.specs.declared.kinds.Part.{Part}
use Rattle.fab_table.specs.declared.kinds.View.{View}
use Rattle.fab_table.specs.Views.{frame_of, frames_of, new_part, new_in, part_at, in_at, with_part, with_in}
use Rattle.fab_table.specs.Seats.{carried, view_of_seat, part_of, in_of}
use Rattle.fab_ring.specs.Gather.{IsPartOf, IsJoined, Grew}

module _ (v : View) (r : ℕ) (p : Part) (near : r < length v.parts) where
  pub part_here : part_at (with_part v r p) r ≡ p
  part_here = get_or-set_same v.parts r p (new_part 0 0 0 0) near

part_else : (v : View) (r k : ℕ) (p : Part) → k ≢ r → part_at (with_part v r p) k ≡ part_at v k
part_else v r k p ne = get_or-set_other v.parts r k p (new_part 0 0 0 0) ne

-- only what comes from e to the r-th part differs, and that part's moves
pub record Sided (v w : View) (r e : ℕ) : Type 0 where
  pub count : length w.parts ≡ length v.parts
  pub me : (part_at w r).me ≡ (part_at v r).me
  pub peers : (part_at w r).peers ≡ (part_at v r).peers
  pub room : (part_at w r).room ≡ (part_at v r).room
  pub pool : (part_at w r).pool ≡ (part_at v r).pool
  pub outs : (part_at w r).outs ≡ (part_at v r).outs
  pub all_ins : length (part_at w r).ins ≡ length (part_at v r).ins
  pub others : (s : ℕ) → s ≢ e → in_at (part_at w r) s ≡ in_at (part_at v r) s
  pub rest : (k : ℕ) → k ≢ r → part_at w k ≡ part_at v k

module _ (v w : View) (r e : ℕ) (u : In) (ms : List Move) (near : r < length v.parts) (is : w ≡ with_part v r (with_in (part_at v r) e u ms)) where
  pub side_part : part_at w r ≡ with_in (part_at v r) e u ms
  side_part = ap (λ (z : View). part_at z r) is ∙ part_here v r (with_in (part_at v r) e u ms) near

  pub side_in : e < length (part_at v r).ins → in_at (part_at w r) e ≡ u
  side_in low = ap (λ (z : Part). in_at z e) side_part ∙ get_or-set_same (part_at v r).ins e u new_in low

  pub sided : Sided v w r e
  sided = let p : Part = part_at v r in let p' : Part = with_in p e u ms in record {
    count = ap (λ (z : View). length z.parts) is ∙ length-set v.parts r p';
    me = ap (λ (z : Part). z.me) side_part;
    peers = ap (λ (z : Part). z.peers) side_part;
    room = ap (λ (z : Part). z.room) side_part;
    pool = ap (λ (z : Part). z.pool) side_part;
    outs = ap (λ (z : Part). z.outs) side_part;
    all_ins = ap (λ (z : Part). length z.ins) side_part ∙ length-set p.ins e u;
    others = λ s ne. ap (λ (z : Part). in_at z s) side_part ∙ get_or-set_other p.ins e s u new_in ne;
    rest = λ k ne. ap (λ (z : View). part_at z k) is ∙ part_else v r k p' ne;
  }

pub sided_then : (u v w : View) (r e : ℕ) → Sided u v r e → Sided v w r e → Sided u w r e
sided_then u v w r e a b = record {
  count = b.count ∙ a.count;
  me = b.me ∙ a.me;
  peers = b.peers ∙ a.peers;
  room = b.room ∙ a.room;
  pool = b.pool ∙ a.pool;
  outs = b.outs ∙ a.outs;
  all_ins = b.all_ins ∙ a.all_ins;
  others = λ s ne. b.others s ne ∙ a.others s ne;
  rest = λ k ne. b.rest k ne ∙ a.rest k ne;
}

-- the seat goes on speaking for all peers
pub sided_joined : (f : LaneTable) (s t : PeerSeat) (r e : ℕ) → IsJoined f s → t.seat.table_id ≡ s.seat.table_id → carried t ≡ [] → Sided (view_of_seat s) (view_of_seat t) r e → (in_of t r e).opened ≡ None → IsJoined f t
sided_joined f s t r e j same empty d closed = record {
  of = same ∙ j.of;
  count = d.count ∙ j.count;
  empty = empty;
  each = λ k low. let p = j.each k low in dite (ℕ_discrete k r)
      (λ is. subst (λ (z : ℕ). IsPartOf f z (part_of t z)) (sym is) (let q : IsPartOf f r (part_of s r) = subst (λ (z : ℕ). IsPartOf f z (part_of s z)) is p in record {
        me = d.me ∙ q.me;
        peers = d.peers ∙ q.peers;
        room = d.room ∙ q.room;
        pool = d.pool ∙ q.pool;
        all_outs = ap length d.outs ∙ q.all_outs;
        all_ins = d.all_ins ∙ q.all_ins;
        closed = λ a. dite (ℕ_discrete a e) (λ at. subst (λ (z : ℕ). (in_at (part_of t r) z).opened ≡ None) (sym at) closed) (λ ne. ap (λ (z : In). z.opened) (d.others a ne) ∙ q.closed a);
      }))
      (λ ne. subst (IsPartOf f k) (sym (d.rest k ne)) p);
}

pub sided_grew : (s t : PeerSeat) (r e : ℕ) (xs : List Sent) → Sided (view_of_seat s) (view_of_seat t) r e → (in_of t r e).taken ≡ (in_of s r e).taken ++ xs → Grew s t r e xs
sided_grew s t r e xs d more = record {
  mine = record { outs = d.outs; taken = more; others = λ a ne. ap (λ (z : In). z.taken) (d.others a ne) };
  rest = d.rest;
}

pub grew_then : (s t u : PeerSeat) (r e : ℕ) (xs ys : List Sent) → Grew s t r e xs → Grew t u r e ys → Grew s u r e (xs ++ ys)
grew_then s t u r e xs ys a b = record {
  mine = record {
    outs = b.mine.outs ∙ a.mine.outs;
    taken = b.mine.taken ∙ ap (λ (z : List Sent). z ++ ys) a.mine.taken ∙ append_assoc (in_of s r e).taken xs ys;
    others = λ k ne. b.mine.others k ne ∙ a.mine.others k ne;
  };
  rest = λ k ne. b.rest k ne ∙ a.rest k ne;
}

-- what was posted stays
pub grew_outs : (s t : PeerSeat) (r e : ℕ) (xs : List Sent) → Grew s t r e xs → (k : ℕ) → (part_of t k).outs ≡ (part_of s k).outs
grew_outs s t r e xs g k = dite (ℕ_discrete k r) (λ is. subst (λ (z : ℕ). (part_of t z).outs ≡ (part_of s z).outs) (sym is) g.mine.outs) (λ ne. ap (λ (z : Part). z.outs) (g.rest k ne))

pub frames_append : (xs ys : List Sent) → frames_of (xs ++ ys) ≡ frames_of xs ++ frames_of ys
frames_append xs ys = map-append frame_of xs ys
