-- What was taken and what was posted, where one seat speaks for all peers.
use Rattle.std.proofs.Common.{◌≡◌, ℕ, zero, suc, ◌+◌, ◌<◌, ◌≤◌, max, true, List, [], ◌∷◌, ◌++◌, map, length, take, drop, get_or, Vec, Global, sym, refl, ap, ◌∙◌, subst, arith, length-append, append_assoc, append-nil}
use mathlib.Core.Logic.{dite}
use mathlib.Core.List.{IsPrefix, map-append}
use native.Mathlib.Decide.{dec_lt}
use lib.ListN.{length-map}
use Rattle.std.specs.Prelude.{Option, Some, None, slice_get, slice_index_or, option_to_list}
use Rattle.std.proofs.lemmas.List.{nil_from_length}
use Rattle.std.proofs.lemmas.List.Elements.{All-from_get_or}
use Rattle.std.proofs.lemmas.Option.{none-some, same_Some, slice_get_within}
use Rattle.fab_base.specs.declared.frames.FrameHead.{FrameHead}
use Rattle.fab_base.specs.declared.frames.Frame.{Frame}
use Rattle.fab_base.proofs.Lists.{get_some, prefix_then}
use Rattle.fab_link.specs.declared.moves.Move.{Move}
use Rattle.fab_link.specs.declared.moves.Move.TheVariants.{Post, Take}
use Rattle.fab_link.specs.Frames.{last_head, MayCome, IsLane}
use Rattle.fab_link.specs.Merged.{IsStampedAbove, IsStamped, posts_to, takes_of, merges}
use Rattle.fab_link.specs.Owing.{IsOwed}
use Rattle.fab_link.proofs.Merging.{stamped_merge}
use Rattle.fab_link.proofs.Lanes.{last_head-append}
use Rattle.fab_link.specs.Meaning.{AreFresh, Incoming}
use Rattle.fab_link.specs.Plain as plain
use Rattle.fab_link.specs.Plain.{Plain, Lane, lane_at, fresh_lane}
use Rattle.fab_table.specs.declared.lane_table.LaneTable.{LaneTable}
use Rattle.fab_table.specs.declared.lane_table.PeerSeat.{PeerSeat}
use Rattle.fab_table.specs.declared.kinds.Sent.{Sent}
use Rattle.fab_table.specs.declared.kinds.Out.{Out}
use Rattle.fab_table.specs.declared.kinds.In.{In}
use Rattle.fab_table.specs.Views.{frame_of, frames_of, new_out, part_at, in_at, out_at}
use Rattle.fab_table.specs.Rule.{Kept, number}
use Rattle.fab_table.specs.Plays.{Sat, learned}
use Rattle.fab_table.specs.Seats as seats
use Rattle.fab_table.specs.Seats.{sat, view_of_seat}
use Rattle.fab_ring.specs.declared.port.RingPort.{RingPort}
use Rattle.fab_ring.specs.declared.rooms.Inside.{Inside}
use Rattle.fab_ring.specs.Ports.{frame_in, incoming, part_of, moves_of}
use Rattle.fab_ring.specs.Gather.{AreAll, AreOwed, GoesOn, Gathered, Released, IsPartOf, IsJoined, IsRoom, AreAllRooms, Succeeds, AreSuccessors, IsWhole, Awaits, Leads, AwaitsAll, Emptied, Brought, ReceivedAll}
use Rattle.fab_table.proofs.Orders.{takes_append}
use Rattle.fab_ring.proofs.Facts.{comes_now}
use Rattle.fab_ring.proofs.Joined.{frames_append}

-- between each two parts of the seat what was taken comes first in what was posted
abbrev pub Fed : LaneTable → PeerSeat → Type 0
Fed f t = (a b : ℕ) → a < f.peers → b < f.peers → IsPrefix (seats.in_of t b a).taken (seats.out_of t a b).posted

pub fed : (f : LaneTable) (t u : PeerSeat) → IsJoined f t → learned (sat t) (sat u) → Fed f t
fed f t u j l a b low_a low_b = subst (λ (z : ℕ × ℕ). IsPrefix (seats.in_of t b z.0).taken (seats.out_of t a z.1).posted) (λ i. ((j.each a low_a).me i, (j.each b low_b).me i))
    (l.2 a b (subst (λ (z : ℕ). a < z) (sym j.count) low_a) (subst (λ (z : ℕ). b < z) (sym j.count) low_b))

prefix_short : {X : Type 0} (xs ys : List X) → IsPrefix xs ys → length xs ≤ length ys
prefix_short xs ys p = let e = ap length p.1 in let l = length-append xs p.0 in omega arith

prefix_same : {X : Type 0} (xs ys : List X) → IsPrefix xs ys → length xs ≡ length ys → xs ≡ ys
prefix_same {X = X} xs ys p same = let e = ap length p.1 in let l = length-append xs p.0 in let none : p.0 ≡ [] = nil_from_length p.0 (omega arith) in sym (append-nil xs) ∙ ap (λ (z : List X). xs ++ z) (sym none) ∙ p.1

-- the frame that lies open, alone in a list
open_frames : (o : Option Sent) → option_to_list (frame_in o) ≡ frames_of (option_to_list o)
open_frames None = refl
open_frames (Some x) = refl

open_lane : (before : Option FrameHead) (o : Option Sent) → ((x : Sent) → o ≡ Some x → MayCome before x.frame) → IsLane before (frames_of (option_to_list o))
open_lane before None comes = tt
open_lane before (Some x) comes = (comes x refl, tt)

-- room that was made for what the ports know is room for what the seat knows
module _ (f : LaneTable) (ports : List RingPort) (t : PeerSeat) (all : AreAll f ports) (whole : IsWhole f ports t) (feeds : Fed f t)
    (r e : ℕ) (a b : RingPort) (i : Inside) (at_r : slice_get ports r ≡ Some a) (at_e : slice_get ports e ≡ Some b) (room : IsRoom a b i) where
  abbrev low_r : r < f.peers
  low_r = let l = slice_get_within ports r a at_r in let n = all.count in omega arith

  abbrev low_e : e < f.peers
  low_e = let l = slice_get_within ports e b at_e in let n = all.count in omega arith

  abbrev before : Option FrameHead
  before = last_head None (frames_of (in_at (part_of a) e).taken)

  pub room_frames : i.frames.items ≡ frames_of (option_to_list (in_at (part_of a) e).opened)
  room_frames = room.frames ∙ ap (λ (z : ℕ). option_to_list (frame_in (in_at (part_of a) z).opened)) (all.numbers e b at_e) ∙ open_frames (in_at (part_of a) e).opened

  pub room_taken : (seats.in_of t r e).taken ≡ (in_at (part_of a) e).taken ++ option_to_list (in_at (part_of a) e).opened
  room_taken = (whole.parts r a at_r).taken e

  pub room_posted : (seats.out_of t e r).posted ≡ (out_at (part_of b) r).posted
  room_posted = ap (λ (os : List Out). (slice_index_or os r (new_out 0)).posted) (whole.parts e b at_e).outs

  pub room_awaits : Awaits t r e i
  room_awaits = let taken : i.taken ≡ length (seats.in_of t r e).taken = room.taken ∙ (λ k. length (in_at (part_of a) (all.numbers e b at_e k)).taken + length (room_frames k))
      ∙ (λ k. length (in_at (part_of a) e).taken + length-map (option_to_list (in_at (part_of a) e).opened) frame_of k) ∙ sym (length-append (in_at (part_of a) e).taken (option_to_list (in_at (part_of a) e).opened)) ∙ ap length (sym room_taken) in
      let posted : length (seats.out_of t e r).posted ≡ length (out_at (part_of b) a.me).posted = ap length room_posted ∙ ap (λ (z : ℕ). length (out_at (part_of b) z).posted) (sym (all.numbers r a at_r)) in
      let short = prefix_short (seats.in_of t r e).taken (seats.out_of t e r).posted (feeds e r low_e low_r) in let spares = room.spares in record {
        taken = taken;
        spares = omega arith;
        sizes = room.sizes;
        room = room.room;
      }

  pub room_leads : Leads t r e before i.frames.items
  room_leads = let comes = comes_now (part_of a) a.comes in record {
    cut = subst (IsLane before) (sym room_frames) (open_lane before (in_at (part_of a) e).opened (comes e));
    goes_on = ap (last_head before) room_frames ∙ sym (last_head-append None (frames_of (in_at (part_of a) e).taken) (frames_of (option_to_list (in_at (part_of a) e).opened)))
        ∙ ap (last_head None) (sym (frames_append (in_at (part_of a) e).taken (option_to_list (in_at (part_of a) e).opened))) ∙ ap (λ (xs : List Sent). last_head None (frames_of xs)) (sym room_taken);
  }

pub all_await : (f : LaneTable) (ports : List RingPort) (t : PeerSeat) (ps : List Plain) (ws : List (Vec Inside Global)) → AreAll f ports → IsWhole f ports t → Fed f t → AreSuccessors ports ps → AreAllRooms ports ws → AwaitsAll f t ps ws
all_await f ports t ps ws all whole feeds succ rooms = let at : (k : ℕ) → k < length ports → (p : RingPort) × (slice_get ports k ≡ Some p) = get_some ports in record {
  count = rooms.count ∙ all.count;
  ports = succ.count ∙ all.count;
  numbers = λ r p here. let l = slice_get_within ps r p here in let n = succ.count in let a = at r (omega arith) in let g = (succ.each r a.0 p a.1 here).goes_on in (g.number ∙ all.numbers r a.0 a.1, g.peers ∙ ap (λ z. z.peers) (all.tables r a.0 a.1));
  each = λ r p w here there. let l = slice_get_within ps r p here in let n = succ.count in let a = at r (omega arith) in let s = succ.each r a.0 p a.1 here in let g = s.goes_on in let own = rooms.each r a.0 w a.1 there in let is_r : p.number ≡ r = g.number ∙ all.numbers r a.0 a.1 in
      let after : (e : ℕ) → (lane_at p e).in_after ≡ last_head None (frames_of (in_at (part_of a.0) e).taken) = λ e. g.in_after e in record {
        count = own.count ∙ all.count ∙ ap (λ z. z.peers) (sym (all.tables r a.0 a.1)) ∙ sym g.peers;
        each = λ e i at_i. let k = slice_get_within w.items e i at_i in let m = own.count in let b = at e (omega arith) in subst (λ (z : ℕ). Awaits t z e i) (sym is_r) (room_awaits f ports t all whole feeds r e a.0 b.0 i a.1 b.1 (own.each e b.0 i b.1 at_i));
        leads = λ e i at_i. let k = slice_get_within w.items e i at_i in let m = own.count in let b = at e (omega arith) in subst (λ (z : ℕ × Option FrameHead). Leads t z.0 e z.1 i.frames.items) (λ j. (sym is_r j, sym (after e) j)) (room_leads f ports t all whole feeds r e a.0 b.0 i a.1 b.1 (own.each e b.0 i b.1 at_i));
        none = λ e. ap (λ (z : Lane). z.in_list) (s.lanes e);
      };
}

-- a lane of a successor to which frames came
fresh_after : (o i : Option FrameHead) (fs : List Frame) (lane : Lane) → lane ≡ record (fresh_lane o i) { in_list = fs } → AreFresh (plain.outgoing lane) (plain.incoming lane)
fresh_after o i fs lane is = subst (λ (z : Lane). AreFresh (plain.outgoing z) (plain.incoming z)) (sym is) record { frames = refl; lane_full_seen = refl; pool_full_seen = refl; taken = refl; lent = refl; empty_seen = refl }

succeeded : (s t : PeerSeat) (p : RingPort) (q q' : Plain) (rooms : List Inside) → Succeeds p q → Brought s t q q' rooms → GoesOn p q'
succeeded s t p q q' rooms k b = let is : (d : ℕ) → lane_at q' d ≡ record (fresh_lane (lane_at q d).out.after (lane_at q d).in_after) { in_list = (lane_at q' d).in_list } = λ d. b.same d ∙ ap (λ (z : Lane). let l : Lane = record z { in_list = (lane_at q' d).in_list } in l) (k.lanes d) in record {
  number = b.number ∙ k.goes_on.number;
  peers = b.count ∙ k.goes_on.peers;
  fresh = λ d. fresh_after (lane_at q d).out.after (lane_at q d).in_after (lane_at q' d).in_list (lane_at q' d) (is d);
  out_after = λ d. ap (λ (z : Lane). z.out.after) (b.same d) ∙ k.goes_on.out_after d;
  in_after = λ d. ap (λ (z : Lane). z.in_after) (b.same d) ∙ k.goes_on.in_after d;
}

pub all_gathered : (f : LaneTable) (ports : List RingPort) (t u : PeerSeat) (ps qs : List Plain) (ws : List (Vec Inside Global)) → AreAll f ports → IsWhole f ports t → Fed f t → Fed f u → AreSuccessors ports ps → AreAllRooms ports ws → ReceivedAll t u ps qs ws → Gathered ports qs
all_gathered f ports t u ps qs ws all whole feeds feeds' succ rooms got = let find : (k : ℕ) (p : RingPort) → slice_get ports k ≡ Some p → (q : Plain) × (w : Vec Inside Global) × (slice_get ps k ≡ Some q) × (slice_get ws k ≡ Some w) = λ k p here.
    (let l = slice_get_within ports k p here in let a = succ.count in let b = rooms.count in let q = get_some ps k (omega arith) in let w = get_some ws k (omega arith) in (q.0, w.0, q.1, w.1)) in record {
      count = got.count ∙ succ.count;
      goes_on = λ k p q here there. let o = find k p here in succeeded t u p o.0 q o.1.items (succ.each k p o.0 here o.2) (got.each k o.0 q o.1 o.2 there o.3);
      unmoved = λ k q there d. let l = slice_get_within qs k q there in let a = got.count in let b = succ.count in let p = get_some ports k (omega arith) in let o = find k p.0 p.1 in
          ap (λ (z : Lane). z.moved) ((got.each k o.0 q o.1 o.2 there o.3).same d) ∙ ap (λ (z : Lane). z.moved) ((succ.each k p.0 o.0 p.1 o.2).lanes d);
      inside = λ e r b a q at_e at_r there. let o = find r a at_r in let own = rooms.each r a o.1 at_r o.3 in let le = slice_get_within ports e b at_e in let lr = slice_get_within ports r a at_r in let n = own.count in let m = all.count in let i = get_some o.1.items e (omega arith) in
          let room = own.each e b i.0 at_e i.1 in let is_r : o.0.number ≡ r = (succ.each r a o.0 at_r o.2).goes_on.number ∙ all.numbers r a at_r in
          let k : Emptied t u r e i.0 (lane_at q e).in_list = subst (λ (z : ℕ). Emptied t u z e i.0 (lane_at q e).in_list) is_r ((got.each r o.0 q o.1 o.2 there o.3).each e i.0 i.1) in
          let same = prefix_same (seats.in_of u r e).taken (seats.out_of u e r).posted (feeds' e r (omega arith) (omega arith)) k.all in
          let posted : (seats.out_of u e r).posted ≡ (out_at (part_of b) r).posted = ap (λ (os : List Out). (slice_index_or os r (new_out 0)).posted) (got.outs e) ∙ room_posted f ports t all whole feeds r e a b i.0 at_r at_e room in
          let before : List Sent = (in_at (part_of a) e).taken in let now : List Sent = option_to_list (in_at (part_of a) e).opened in
          ap frames_of (sym posted ∙ sym same ∙ k.taken ∙ ap (λ (z : List Sent). z ++ k.xs) (room_taken f ports t all whole feeds r e a b i.0 at_r at_e room) ∙ append_assoc before now k.xs)
          ∙ frames_append before (now ++ k.xs) ∙ ap (λ (z : List Frame). frames_of before ++ z) (frames_append now k.xs ∙ ap (λ (z : List Frame). z ++ frames_of k.xs) (sym (room_frames f ports t all whole feeds r e a b i.0 at_r at_e room)) ∙ sym k.came_is);
    }

-- ---- the moves of all ports merge

stamped_front : (g : ℕ) (xs ys : List Move) → IsStampedAbove g (xs ++ ys) → IsStampedAbove g xs
stamped_front g [] ys s = tt
stamped_front g (Post d k ∷ xs) ys s = (s.0, stamped_front k xs ys s.1)
stamped_front g (Take e k ∷ xs) ys s = stamped_front (max g k) xs ys s

prefix_map : {A B : Type 0} (g : A → B) (xs ys : List A) → IsPrefix xs ys → IsPrefix (map g xs) (map g ys)
prefix_map g xs ys p = (map g p.0, sym (map-append g xs p.0) ∙ ap (map g) p.1)

map_at : (ports : List RingPort) (k : ℕ) (p : RingPort) → slice_get ports k ≡ Some p → get_or (map moves_of ports) k [] ≡ moves_of p
map_at [] k p e = absurd (none-some p e)
map_at (x ∷ xs) zero p e = ap moves_of (same_Some x p e)
map_at (x ∷ xs) (suc k) p e = map_at xs k p e

map_past : (ports : List RingPort) (k : ℕ) → length ports ≤ k → get_or (map moves_of ports) k [] ≡ []
map_past [] k h = refl
map_past (x ∷ xs) zero h = absurd (let no : suc (length xs) ≤ 0 = h in omega arith)
map_past (x ∷ xs) (suc k) h = map_past xs k (let le : suc (length xs) ≤ suc k = h in omega arith)

-- what comes of a peer, where this frame lies open, once it is taken
abbrev advanced_by : In → Option Sent → Incoming
advanced_by u o = elim (frame_in o) [ None ↦ incoming u | Some f ↦ record (incoming u) { taken = (incoming u).taken ++ f ∷ []; lent = None } ]

advanced_taken : (u : In) (o : Option Sent) → (advanced_by u o).taken ≡ frames_of (u.taken ++ option_to_list o)
advanced_taken u None = ap frames_of (sym (append-nil u.taken))
advanced_taken u (Some x) = sym (map-append frame_of u.taken (x ∷ []))

module _ (f : LaneTable) (ports : List RingPort) (t : PeerSeat) (all : AreAll f ports) (whole : IsWhole f ports t) (feeds : Fed f t) (kept : (k : ℕ) → k < f.peers → Kept (seats.part_of t k)) where
  takes_before : (d s : ℕ) (p : RingPort) → slice_get ports d ≡ Some p → IsPrefix (takes_of s (moves_of p)) (takes_of s (seats.part_of t d).moves)
  takes_before d s p here = let m = (whole.parts d p here).moves in (takes_of s m.0, sym (takes_append s (moves_of p) m.0) ∙ ap (takes_of s) m.1)

  feed_both : (s d : ℕ) (a b : RingPort) → slice_get ports s ≡ Some a → slice_get ports d ≡ Some b → IsPrefix (takes_of s (moves_of b)) (posts_to d (moves_of a))
  feed_both s d a b at_s at_d = let ls = slice_get_within ports s a at_s in let ld = slice_get_within ports d b at_d in let n = all.count in let low_s : s < f.peers = omega arith in let low_d : d < f.peers = omega arith in let ks = kept s low_s in let kd = kept d low_d in
      let js = whole.joined.each s low_s in let jd = whole.joined.each d low_d in
      prefix_then (takes_of s (moves_of b)) (takes_of s (seats.part_of t d).moves) (posts_to d (moves_of a)) (takes_before d s b at_d)
      (subst (λ (z : List ℕ × List ℕ). IsPrefix z.0 z.1)
      (λ i. (sym (kd.takes s (subst (λ (z : ℕ). s < z) (sym jd.all_ins) low_s)) i, (sym (ks.posts d (subst (λ (z : ℕ). d < z) (sym js.all_outs) low_d)) ∙ (whole.parts s a at_s).posts d) i))
      (prefix_map number (seats.in_of t d s).taken (seats.out_of t s d).posted (feeds s d low_s low_d)))

  no_takes : (s d : ℕ) (b : RingPort) → slice_get ports d ≡ Some b → length ports ≤ s → takes_of s (moves_of b) ≡ []
  no_takes s d b at_d far = let ld = slice_get_within ports d b at_d in let n = all.count in let low_d : d < f.peers = omega arith in let jd = whole.joined.each d low_d in let e = jd.all_ins in let p = takes_before d s b at_d in
      let none = (kept d low_d).no_takes s (omega arith) in let short = ap length (p.1 ∙ none) in let long = length-append (takes_of s (moves_of b)) p.0 in nil_from_length (takes_of s (moves_of b)) (omega arith)

  -- what the rule says of the seat, it says of the ports
  pub all_owed : AreOwed ports
  all_owed k p here d op = let l = slice_get_within ports k p here in let n = all.count in let released = whole.parts k p here in
      subst (λ (z : List Frame). IsOwed (λ op. 0) (frames_of (out_at (part_of p) d).posted) z op 0) (sym (advanced_taken (in_at (part_of p) d) (in_at (part_of p) d).opened))
      (subst (λ (z : List Sent × List Sent). IsOwed (λ op. 0) (frames_of z.0) (frames_of z.1) op 0) (λ i. ((slice_index_or (released.outs i) d (new_out 0)).posted, released.taken d i)) ((kept k (omega arith)).repaid d op))

  pub all_merge : merges (map moves_of ports) ≡ true
  all_merge = stamped_merge (map moves_of ports)
      (All-from_get_or IsStamped (map moves_of ports) [] (λ k low. let long = length-map ports moves_of in let p = get_some ports k (omega arith) in let n = all.count in let l = slice_get_within ports k p.0 p.1 in let m = (whole.parts k p.0 p.1).moves in
      subst IsStamped (sym (map_at ports k p.0 p.1)) (stamped_front 0 (moves_of p.0) m.0 (subst IsStamped (sym m.1) (kept k (omega arith)).stamped))))
      (λ s d. dite (dec_lt d (length ports))
      (λ low_d. let b = get_some ports d low_d in dite (dec_lt s (length ports))
      (λ low_s. let a = get_some ports s low_s in subst (λ (z : List Move × List Move). IsPrefix (takes_of s z.0) (posts_to d z.1)) (λ i. (sym (map_at ports d b.0 b.1) i, sym (map_at ports s a.0 a.1) i)) (feed_both s d a.0 b.0 a.1 b.1))
      (λ far_s. subst (λ (z : List Move). IsPrefix (takes_of s z) (posts_to d (get_or (map moves_of ports) s []))) (sym (map_at ports d b.0 b.1)) (subst (λ (z : List ℕ). IsPrefix z (posts_to d (get_or (map moves_of ports) s []))) (sym (no_takes s d b.0 b.1 (omega arith))) (posts_to d (get_or (map moves_of ports) s []), refl))))
      (λ far_d. subst (λ (z : List Move). IsPrefix (takes_of s z) (posts_to d (get_or (map moves_of ports) s []))) (sym (map_past ports d (omega arith))) (posts_to d (get_or (map moves_of ports) s []), refl)))

-- ---- the look that tells what holds between the parts leaves the seat

pub whole_same : (f : LaneTable) (ports : List RingPort) (t u : PeerSeat) → u.seat.table_id ≡ t.seat.table_id → sat u ≡ sat t → IsWhole f ports t → IsWhole f ports u
whole_same f ports t u same is w = record {
  joined = record {
    of = same ∙ w.joined.of;
    count = ap (λ (m : Sat). length m.0.parts) is ∙ w.joined.count;
    empty = ap (λ (m : Sat). m.1) is ∙ w.joined.empty;
    each = λ k low. subst (λ (m : Sat). IsPartOf f k (part_at m.0 k)) (sym is) (w.joined.each k low);
  };
  parts = λ k p here. subst (λ (m : Sat). Released (part_of p) (part_at m.0 k)) (sym is) (w.parts k p here);
}

pub fed_same : (f : LaneTable) (t u : PeerSeat) → sat u ≡ sat t → Fed f t → Fed f u
fed_same f t u is feeds a b low_a low_b = subst (λ (m : Sat). IsPrefix (in_at (part_at m.0 b) a).taken (out_at (part_at m.0 a) b).posted) (sym is) (feeds a b low_a low_b)

pub seam : {A : Type 0} (xs ys : List A) → length xs ≡ length ys → take (length ys) (xs ++ drop (length xs) ys) ≡ xs
seam [] [] e = refl
seam [] (y ∷ ys) e = absurd (let n : 0 ≡ suc (length ys) = e in omega arith)
seam (x ∷ xs) [] e = absurd (let n : suc (length xs) ≡ 0 = e in omega arith)
seam {A = A} (x ∷ xs) (y ∷ ys) e = ap (λ (z : List A). x ∷ z) (seam xs ys (let n : suc (length xs) ≡ suc (length ys) = e in omega arith))
