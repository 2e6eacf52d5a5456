-- One frame of a lane is taken by the seat that speaks for all peers.
use Rattle.std.proofs.Common.{◌≡◌, ℕ, ◌+◌, ◌*◌, ◌<◌, ⊎_elim, inl, inr, true, List, [], ◌∷◌, ◌++◌, length, take, sym, ap, ◌∙◌, subst, arith}
use Rattle.std.specs.Prelude.{Some}
use Rattle.std.proofs.lemmas.Option.{none-some, same_Some}
use Rattle.atomic_table.specs.Table.{rest, turned}
use Rattle.fab_link.specs.declared.moves.Move.{Move}
use Rattle.fab_link.specs.declared.moves.Move.TheVariants.{Take}
use Rattle.fab_table.specs.declared.lane_table.LaneTable.{LaneTable}
use Rattle.fab_table.specs.declared.lane_table.PeerSeat.{PeerSeat}
use Rattle.fab_table.specs.declared.kinds.Command.{Command}
use Rattle.fab_table.specs.declared.kinds.Sent.{Sent}
use Rattle.fab_table.specs.declared.kinds.Slot.{Slot}
use Rattle.fab_table.specs.declared.kinds.Slot.TheVariants.{Cell, Pool}
use Rattle.fab_table.specs.declared.kinds.In.{In}
use Rattle.fab_table.specs.declared.kinds.Part.{Part}
use Rattle.fab_table.specs.declared.kinds.View.{View}
use Rattle.fab_table.specs.Views.{part_at, in_at, saw_frame, freed_one, taken_one, has_slot, lane_of}
use Rattle.fab_table.specs.Rule.{cell_of}
use Rattle.fab_table.specs.Plays.{Sat, Opens, new_in_view, take_view, oldest_cell, slot_home}
use Rattle.fab_table.specs.Seats.{carried, view_of_seat, sat, part_of, in_of}
use Rattle.fab_ring.specs.Gather.{IsPartOf, IsJoined, IsOpen, Grew}
use Rattle.fab_ring.proofs.Ends.{Found, the_filled, the_said}
use Rattle.fab_ring.proofs.Joined.{Sided, sided, side_part, side_in, sided_then, sided_joined, sided_grew}

-- a frame with a slot is open: the slot comes second
pub open_pooled : (f : LaneTable) (t : PeerSeat) (r e : ℕ) (x : Sent) (y : Slot) (s : ℕ) → IsOpen f t r e x y → x.slot ≡ Some s
    → (b : List ℕ) × (length b ≡ 4096) × (take x.frame.head.len b ≡ x.frame.bytes) × (s < f.peers * f.pool) × ((in_of t r e).lent ≡ true) × (carried t ≡ (oldest_cell (view_of_seat t) r e, y) ∷ (slot_home (view_of_seat t) r s, Pool b) ∷ [])
open_pooled f t r e x y s o named = ⊎_elim
    (λ h. absurd (none-some s (sym h.0 ∙ named)))
    (λ h. let same : h.0 ≡ s = same_Some h.0 s (sym h.2 ∙ named) in let b = the_filled x h.1 h.4 in
    (b.0, b.2, b.3, subst (λ (z : ℕ). z < f.peers * f.pool) same h.5, h.3, h.6 ∙ (λ i. (oldest_cell (view_of_seat t) r e, y) ∷ (slot_home (view_of_seat t) r (same i), b.1 i) ∷ [])))
    o.hand

-- the slot's buffer went out for the spare one
module _ (f : LaneTable) (t : PeerSeat) (r e s : ℕ) (x : Sent) (y : Slot) (o : IsOpen f t r e x y) (named : x.slot ≡ Some s) (m₁ : Sat) (turned_is : m₁ ≡ (view_of_seat t, turned (carried t))) (home : ℕ) (home_is : home ≡ slot_home (view_of_seat t) r s) where
  pub swap_hand : (b : List ℕ) × (m₁.1 ≡ (home, Pool b) ∷ rest m₁.1)
  swap_hand = let h = open_pooled f t r e x y s o named in let now : m₁.1 ≡ (slot_home (view_of_seat t) r s, Pool h.0) ∷ (oldest_cell (view_of_seat t) r e, y) ∷ [] = ap (λ (m : Sat). m.1) turned_is ∙ ap turned h.5 in
      (h.0, now ∙ (λ i. (sym home_is i, Pool h.0) ∷ sym (ap rest now) i))

  pub free_hand : (m₂ : Sat) (spare : List ℕ) → m₂ ≡ (m₁.0, (home, Pool spare) ∷ rest m₁.1) → m₂.1 ≡ (slot_home m₂.0 r s, Pool spare) ∷ rest m₂.1
  free_hand m₂ spare e₂ = let view : m₂.0 ≡ view_of_seat t = ap (λ (m : Sat). m.0) e₂ ∙ ap (λ (m : Sat). m.0) turned_is in let hand = ap (λ (m : Sat). m.1) e₂ in
      hand ∙ (λ i. ((home_is ∙ ap (λ (v : View). slot_home v r s) (sym view)) i, Pool spare) ∷ sym (ap rest hand) i)

found_view : (m m₁ : Sat) (v : View) (a n : ℕ) (h : ℕ → ℕ) (x : Sent) (y : Slot) → Found m m₁ v a h n x y → m₁.0 ≡ v
found_view m m₁ v a n h x y (inl k) = ap (λ (z : Sat). z.0) k.1
found_view m m₁ v a n h x y (inr k) = ap (λ (z : Sat). z.0) k.5

-- what the looks of a joined seat leave
module _ (f : LaneTable) (s t : PeerSeat) (r e res : ℕ) (x : Sent) (y : Slot) (j : IsJoined f s) (low : r < f.peers) (below : e < f.peers) (same : t.seat.table_id ≡ s.seat.table_id)
    (opens : Opens (in_of s r e) x y)
    (found : Found (sat s) (sat t) (new_in_view (view_of_seat s) r e (saw_frame (in_of s r e) res x)) (oldest_cell (view_of_seat s) r e) (slot_home (view_of_seat s) r) ((part_of s r).peers * (part_of s r).pool) x y) where
  abbrev u : In
  u = saw_frame (in_of s r e) res x

  abbrev v : View
  v = view_of_seat s

  abbrev near : r < length (view_of_seat s).parts
  near = subst (λ (z : ℕ). r < z) (sym j.count) low

  abbrev mine : IsPartOf f r (part_of s r)
  mine = j.each r low

  abbrev inside : e < length (part_of s r).ins
  inside = subst (λ (z : ℕ). e < z) (sym mine.all_ins) below

  now_view : view_of_seat t ≡ new_in_view v r e u
  now_view = found_view (sat s) (sat t) (new_in_view v r e u) (oldest_cell v r e) ((part_of s r).peers * (part_of s r).pool) (slot_home v r) x y found

  pub look_sided : Sided (view_of_seat s) (view_of_seat t) r e
  look_sided = sided v (view_of_seat t) r e u (part_of s r).moves near now_view

  pub look_in : in_of t r e ≡ saw_frame (in_of s r e) res x
  look_in = side_in v (view_of_seat t) r e u (part_of s r).moves near now_view inside

  same_cell : oldest_cell (view_of_seat s) r e ≡ oldest_cell (view_of_seat t) r e
  same_cell = let part = side_part v (view_of_seat t) r e u (part_of s r).moves near now_view in let p : Part = part_of s r in
      (λ i. cell_of (lane_of p.peers e p.me * p.room) p.room (length (sym look_in i).taken)) ∙ (λ i. let q : Part = sym part i in cell_of (lane_of q.peers e q.me * q.room) q.room (length (in_at (part_at (view_of_seat t) r) e).taken))

  same_home : (q : ℕ) → slot_home (view_of_seat s) r q ≡ slot_home (view_of_seat t) r q
  same_home q = let part = side_part v (view_of_seat t) r e u (part_of s r).moves near now_view in λ i. let q' : Part = sym part i in q'.peers * q'.peers * q'.room + q

  pub look_open : IsOpen f t r e x y
  look_open = let d = look_sided in let few = opens.0.0.1 in record {
    of = same ∙ j.of;
    near = subst (λ (z : ℕ). r < z) (sym d.count) near;
    below = below;
    peers = d.peers ∙ mine.peers;
    room = d.room ∙ mine.room;
    all_ins = d.all_ins ∙ mine.all_ins;
    opened = ap (λ (z : In). z.opened) look_in;
    short = opens.1;
    few = omega arith;
    hand = ⊎_elim
        (λ k. inl (k.0, ap (λ (z : In). z.lent) look_in ∙ ap has_slot k.0, ap (λ (m : Sat). m.1) k.1 ∙ (λ i. (same_cell i, y) ∷ j.empty i)))
        (λ k. inr (k.0, k.1, k.2, ap (λ (z : In). z.lent) look_in ∙ ap has_slot k.2, k.3, subst (λ (z : ℕ × ℕ). k.0 < z.0 * z.1) (λ i. (mine.peers i, mine.pool i)) k.4, ap (λ (m : Sat). m.1) k.5 ∙ (λ i. (same_cell i, y) ∷ (same_home k.0 i, k.1) ∷ j.empty i)))
        found;
  }

  -- the frame was read, and its slot is free
  module _ (t₂ : PeerSeat) (freed : sat t₂ ≡ (new_in_view (view_of_seat t) r e (freed_one (in_of t r e)), (oldest_cell (view_of_seat t) r e, y) ∷ [])) where
    abbrev near₁ : r < length (view_of_seat t).parts
    near₁ = look_open.near

    abbrev inside₁ : e < length (part_of t r).ins
    inside₁ = subst (λ (z : ℕ). e < z) (sym look_open.all_ins) below

    abbrev view₂ : view_of_seat t₂ ≡ new_in_view (view_of_seat t) r e (freed_one (in_of t r e))
    view₂ = ap (λ (m : Sat). m.0) freed

    pub free_sided : Sided (view_of_seat t) (view_of_seat t₂) r e
    free_sided = sided (view_of_seat t) (view_of_seat t₂) r e (freed_one (in_of t r e)) (part_of t r).moves near₁ view₂

    pub free_in : in_of t₂ r e ≡ freed_one (saw_frame (in_of s r e) res x)
    free_in = side_in (view_of_seat t) (view_of_seat t₂) r e (freed_one (in_of t r e)) (part_of t r).moves near₁ view₂ inside₁ ∙ ap freed_one look_in

    pub free_cell : (c : Command) × (carried t₂ ≡ (oldest_cell (view_of_seat t₂) r e, Cell c) ∷ rest (carried t₂))
    free_cell = let part = side_part (view_of_seat t) (view_of_seat t₂) r e (freed_one (in_of t r e)) (part_of t r).moves near₁ view₂ in let p : Part = part_of t r in let said = the_said x y opens.2 in let hand = ap (λ (m : Sat). m.1) freed in
        let cell : oldest_cell (view_of_seat t) r e ≡ oldest_cell (view_of_seat t₂) r e = (λ i. cell_of (lane_of p.peers e p.me * p.room) p.room (length ((ap (λ (z : In). z.taken) look_in ∙ sym (ap (λ (z : In). z.taken) free_in)) i))) ∙ (λ i. let q : Part = sym part i in cell_of (lane_of q.peers e q.me * q.room) q.room (length (in_at (part_at (view_of_seat t₂) r) e).taken)) in
        (said.0, hand ∙ (λ i. (cell i, said.1 i) ∷ sym (ap rest hand) i))

    -- the frame was finished
    module _ (t₃ : PeerSeat) (same₃ : t₃.seat.table_id ≡ s.seat.table_id) (done : sat t₃ ≡ (take_view (view_of_seat t₂) r e x, rest (carried t₂))) where
      abbrev near₂ : r < length (view_of_seat t₂).parts
      near₂ = subst (λ (z : ℕ). r < z) (sym free_sided.count) near₁

      abbrev inside₂ : e < length (part_of t₂ r).ins
      inside₂ = subst (λ (z : ℕ). e < z) (sym (free_sided.all_ins ∙ look_open.all_ins)) below

      abbrev view₃ : view_of_seat t₃ ≡ take_view (view_of_seat t₂) r e x
      view₃ = ap (λ (m : Sat). m.0) done

      abbrev ms : List Move
      ms = (part_of t₂ r).moves ++ Take e x.number ∷ []

      all_sided : Sided (view_of_seat s) (view_of_seat t₃) r e
      all_sided = sided_then (view_of_seat s) (view_of_seat t₂) (view_of_seat t₃) r e (sided_then (view_of_seat s) (view_of_seat t) (view_of_seat t₂) r e look_sided free_sided) (sided (view_of_seat t₂) (view_of_seat t₃) r e (taken_one (in_of t₂ r e) x) ms near₂ view₃)

      done_in : in_of t₃ r e ≡ taken_one (in_of t₂ r e) x
      done_in = side_in (view_of_seat t₂) (view_of_seat t₃) r e (taken_one (in_of t₂ r e) x) ms near₂ view₃ inside₂

      pub done_joined : IsJoined f t₃
      done_joined = sided_joined f s t₃ r e j same₃ (ap (λ (m : Sat). m.1) done ∙ ap rest (ap (λ (m : Sat). m.1) freed)) all_sided (ap (λ (z : In). z.opened) done_in)

      pub done_grew : Grew s t₃ r e (x ∷ [])
      done_grew = sided_grew s t₃ r e (x ∷ []) all_sided (ap (λ (z : In). z.taken) done_in ∙ ap (λ (z : In). z.taken ++ x ∷ []) free_in)
