-- What was inside the lanes came to the plain ports.
use Rattle.std.proofs.Common.{◌≡◌, ℕ, ◌+◌, ◌<◌, ◌≢◌, List, [], ◌∷◌, ◌++◌, length, get_or, sym, ap, ◌∙◌, subst, arith, length-set, length-append, append_assoc}
use mathlib.Core.Logic.{dite}
use mathlib.Core.List.{IsPrefix}
use native.Mathlib.Decide.{ℕ_discrete}
use Rattle.std.specs.Prelude.{Option, Some, None, slice_get, slice_index_or}
use Rattle.std.proofs.Math.ListN.{get_or-append}
use Rattle.fab_base.specs.declared.frames.FrameHead.{FrameHead}
use Rattle.fab_base.specs.declared.frames.Frame.{Frame}
use Rattle.fab_link.specs.Frames.{last_head, MayCome, IsLane}
use Rattle.fab_link.proofs.Lanes.{IsLane-push, last_head-append, IsLane-append}
use Rattle.fab_link.specs.Plain.{Plain, Lane, lane_at, with_lane}
use Rattle.fab_link.proofs.Looks.{other_lane as lane_else, same_lane as lane_here}
use Rattle.fab_table.specs.declared.lane_table.PeerSeat.{PeerSeat}
use Rattle.fab_table.specs.declared.kinds.Sent.{Sent}
use Rattle.fab_table.specs.declared.kinds.Out.{Out}
use Rattle.fab_table.specs.declared.kinds.Part.{Part}
use Rattle.fab_table.specs.Views.{frames_of, new_out, in_at}
use Rattle.fab_table.specs.Seats.{part_of, in_of, out_of}
use Rattle.fab_ring.specs.declared.rooms.Inside.{Inside}
use Rattle.fab_ring.specs.Gather.{Grew, AreSpare, Awaits, Leads, AwaitsEach, Emptied, Brought}
use Rattle.fab_ring.proofs.Releasing.{get_last}
use Rattle.fab_ring.proofs.Joined.{frames_append}

pub spare_front : (xs ys : List (List ℕ)) (y : List ℕ) → ys ≡ xs ++ y ∷ [] → AreSpare ys → AreSpare xs
spare_front xs ys y is all k low = ap length (sym (get_or-append xs (y ∷ []) [] k low) ∙ ap (λ (l : List (List ℕ)). get_or l k []) (sym is)) ∙ all k (let e = ap length is in let l = length-append xs (y ∷ []) in omega arith)

-- the same lists of what was posted have the same lengths
pub posted_same : (s t : PeerSeat) (e r : ℕ) → (part_of t e).outs ≡ (part_of s e).outs → length (out_of t e r).posted ≡ length (out_of s e r).posted
posted_same s t e r same = ap (λ (os : List Out). length (slice_index_or os r (new_out 0)).posted) same

-- one frame more of a lane
pub lane_more : (s t u : PeerSeat) (r e : ℕ) (xs : List Sent) (x : Sent) → Grew s t r e xs → MayCome (last_head None (frames_of (in_of t r e).taken)) x.frame → IsLane (last_head None (frames_of (in_of s r e).taken)) (frames_of xs)
    → IsLane (last_head None (frames_of (in_of s r e).taken)) (frames_of (xs ++ x ∷ []))
lane_more s t u r e xs x g comes lane = let b : Option FrameHead = last_head None (frames_of (in_of s r e).taken) in
    subst (IsLane b) (sym (frames_append xs (x ∷ []))) (IsLane-push b (frames_of xs) x.frame lane
    (subst (λ (h : Option FrameHead). MayCome h x.frame) (ap (λ (l : List Sent). last_head None (frames_of l)) g.mine.taken ∙ ap (last_head None) (frames_append (in_of s r e).taken xs) ∙ last_head-append None (frames_of (in_of s r e).taken) (frames_of xs)) comes))

pub lane_whole : (s : PeerSeat) (r e : ℕ) (before : Option FrameHead) (fs gs : List Frame) (xs : List Sent) → Leads s r e before fs → IsLane (last_head None (frames_of (in_of s r e).taken)) (frames_of xs) → gs ≡ fs ++ frames_of xs → IsLane before gs
lane_whole s r e before fs gs xs leads lane is = subst (IsLane before) (sym is) (IsLane-append before fs (frames_of xs) leads.cut (subst (λ (h : Option FrameHead). IsLane h (frames_of xs)) (sym leads.goes_on) lane))

-- what is said of a lane that was emptied stays, as long as the lane does
pub emptied_later : (s t u : PeerSeat) (r e : ℕ) (i : Inside) (came : List Frame) → Emptied s t r e i came → (in_of u r e).taken ≡ (in_of t r e).taken → (part_of u e).outs ≡ (part_of t e).outs → Emptied s u r e i came
emptied_later s t u r e i came k taken outs = record {
  xs = k.xs;
  came_is = k.came_is;
  taken = taken ∙ k.taken;
  all = ap length taken ∙ k.all ∙ sym (posted_same t u e r outs);
}

pub emptied_from : (s s' t : PeerSeat) (r e : ℕ) (i : Inside) (came : List Frame) → Emptied s' t r e i came → (in_of s' r e).taken ≡ (in_of s r e).taken → Emptied s t r e i came
emptied_from s s' t r e i came k taken = record { xs = k.xs; came_is = k.came_is; taken = k.taken ∙ ap (λ (l : List Sent). l ++ k.xs) taken; all = k.all }

-- prefixes that lose their last member
pub prefix_less : {X : Type 0} (xs ys zs : List X) (x : X) → ys ≡ xs ++ x ∷ [] → IsPrefix ys zs → (slice_get zs (length xs) ≡ Some x) × IsPrefix xs zs × (length ys ≡ length xs + 1)
prefix_less {X = X} xs ys zs x is p = (get_last xs p.0 zs x (ap (λ (l : List X). l ++ p.0) (sym is) ∙ p.1), (x ∷ p.0, sym (append_assoc xs (x ∷ []) p.0) ∙ ap (λ (l : List X). l ++ p.0) (sym is) ∙ p.1), ap length is ∙ length-append xs (x ∷ []))

-- room for what is inside a lane stays so, as long as the lane does
pub awaits_later : (s t : PeerSeat) (r e : ℕ) (i : Inside) → Awaits s r e i → (in_of t r e).taken ≡ (in_of s r e).taken → (part_of t e).outs ≡ (part_of s e).outs → Awaits t r e i
awaits_later s t r e i a taken outs = record {
  taken = a.taken ∙ ap length (sym taken);
  spares = a.spares ∙ sym (posted_same s t e r outs);
  sizes = a.sizes;
  room = a.room;
}

pub leads_later : (s t : PeerSeat) (r e : ℕ) (before : Option FrameHead) (fs : List Frame) → Leads s r e before fs → (in_of t r e).taken ≡ (in_of s r e).taken → Leads t r e before fs
leads_later s t r e before fs l taken = record { cut = l.cut; goes_on = l.goes_on ∙ ap (λ (xs : List Sent). last_head None (frames_of xs)) (sym taken) }

pub awaits_each_later : (s t : PeerSeat) (p : Plain) (rooms : List Inside) → AwaitsEach s p rooms → part_of t p.number ≡ part_of s p.number → ((k : ℕ) → (part_of t k).outs ≡ (part_of s k).outs) → AwaitsEach t p rooms
awaits_each_later s t p rooms a same outs = let taken : (e : ℕ) → (in_of t p.number e).taken ≡ (in_of s p.number e).taken = λ e. ap (λ (z : Part). (in_at z e).taken) same in record {
  count = a.count;
  each = λ e i there. awaits_later s t p.number e i (a.each e i there) (taken e) (outs e);
  leads = λ e i there. leads_later s t p.number e (lane_at p e).in_after i.frames.items (a.leads e i there) (taken e);
  none = a.none;
}

abbrev with_in_list : Lane → List Frame → Lane
with_in_list lane xs = record lane { in_list = xs }

-- frames came to one lane of a plain port
module _ (p₀ p q : Plain) (e : ℕ) (fs : List Frame) (near : e < length p.lanes) (is : q ≡ with_lane p e (record (lane_at p e) { in_list = fs })) where
  pub adopted_here : lane_at q e ≡ record (lane_at p e) { in_list = fs }
  adopted_here = ap (λ (z : Plain). lane_at z e) is ∙ lane_here p e (record (lane_at p e) { in_list = fs }) near

  pub adopted_else : (d : ℕ) → d ≢ e → lane_at q d ≡ lane_at p d
  adopted_else d ne = ap (λ (z : Plain). lane_at z d) is ∙ lane_else p e d (record (lane_at p e) { in_list = fs }) ne

  pub adopted_count : length q.lanes ≡ length p.lanes
  adopted_count = ap (λ (z : Plain). length z.lanes) is ∙ length-set p.lanes e (record (lane_at p e) { in_list = fs })

  pub adopted_lanes : ((d : ℕ) → lane_at p d ≡ record (lane_at p₀ d) { in_list = (lane_at p d).in_list }) → (d : ℕ) → lane_at q d ≡ record (lane_at p₀ d) { in_list = (lane_at q d).in_list }
  adopted_lanes all d = dite (ℕ_discrete d e)
      (λ same. subst (λ (z : ℕ). lane_at q z ≡ record (lane_at p₀ z) { in_list = (lane_at q z).in_list }) (sym same)
      (adopted_here ∙ ap (λ (z : Lane). with_in_list z fs) (all e) ∙ (λ i. with_in_list (lane_at p₀ e) (sym (ap (λ (z : Lane). z.in_list) adopted_here) i))))
      (λ ne. adopted_else d ne ∙ all d ∙ (λ i. with_in_list (lane_at p₀ d) (sym (ap (λ (z : Lane). z.in_list) (adopted_else d ne)) i)))

pub brought_from : (s s' t : PeerSeat) (p q : Plain) (rooms : List Inside) → Brought s' t p q rooms → part_of s' p.number ≡ part_of s p.number → Brought s t p q rooms
brought_from s s' t p q rooms b same = record {
  number = b.number;
  count = b.count;
  same = b.same;
  each = λ e i there. emptied_from s s' t p.number e i (lane_at q e).in_list (b.each e i there) (ap (λ (z : Part). (in_at z e).taken) same);
}

pub brought_later : (s t u : PeerSeat) (p q : Plain) (rooms : List Inside) → Brought s t p q rooms → part_of u p.number ≡ part_of t p.number → ((k : ℕ) → (part_of u k).outs ≡ (part_of t k).outs) → Brought s u p q rooms
brought_later s t u p q rooms b same outs = record {
  number = b.number;
  count = b.count;
  same = b.same;
  each = λ e i there. emptied_later s t u p.number e i (lane_at q e).in_list (b.each e i there) (ap (λ (z : Part). (in_at z e).taken) same) (outs e);
}
