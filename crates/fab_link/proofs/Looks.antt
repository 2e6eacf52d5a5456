-- A look at a lane, and a step over its frame, in the words of the port.
use Rattle.std.proofs.Common.{◌≡◌, ◌≢◌, ℕ, ◌<◌, ◌+◌, Bool, true, false, List, length, take, Some, None, arith, refl, sym, ap, ◌∙◌, inl, inr, cond, length-take-le, nat_lt, get_or-set_other, get_or-set_same, length-set}
use std.Path.{fun_ext}
use Rattle.std.specs.Prelude.{◌^◌, Option, slice_get, IfSome, IfNone, IsSome}
use Rattle.std.proofs.lemmas.Option.{slice_get_cases, get_or_from_slice_get, slice_get_within}
use Rattle.std.proofs.lemmas.List.{take_more, take_all}
use Rattle.std.proofs.lemmas.Bool.Decides.{nat_tests}
use Rattle.std.proofs.lemmas.Bool.{cases_eq}
use Rattle.fab_base.specs.declared.frames.Frame.{Frame}
use Rattle.fab_base.specs.declared.frames.FrameRef.{FrameRef}
use Rattle.fab_link.specs.Frames.{lent_frame, MayCome, last_head, IsLane}
use Rattle.fab_link.proofs.Lanes.{IsLane-at}
use Rattle.fab_link.specs.Meaning.{Fronted, Gives, advanced}
use Rattle.fab_link.specs.Plain.{Lane, IsSoundLane, Plain, outgoing, incoming, looked, lent_frames, lane_at, with_lane, in_of, out_of, home_of}
use Rattle.fab_base.specs.Counts.{counted}
use Rattle.fab_link.proofs.Counting.{Rose-counted}

-- the next frame of a lane may come
next_may_come : (lane : Lane) (f : Frame) → IsLane lane.in_after lane.in_list → slice_get lane.in_list lane.taken ≡ Some f
    → MayCome (last_head lane.in_after (take lane.taken lane.in_list)) f
next_may_come lane f s e =
    let at = IsLane-at lane.in_after lane.in_list lane.taken f s (slice_get_within lane.in_list lane.taken f e) in
    rw (get_or_from_slice_get lane.in_list lane.taken f f e) at at

-- an element within the list is there
is_there : {X : Type 0} (xs : List X) (i : ℕ) → i < length xs → None ≡ slice_get xs i → ⊥
is_there xs i l e = elim (slice_get_cases xs i).1 [ inl w ↦ cc (w.2, e) | inr w ↦ omega (arith, w.0, l) ]

-- a frame that was lent is the one that is given
again : (b : Bool) (o : Option Frame) (f g : Frame) → Some f ≡ o → cond b o None ≡ Some g → f ≡ g
again true o f g a q = cc
again false o f g a q = absurd (cc)

none_lent : (b : Bool) (o : Option Frame) (f : Frame) → (b ≡ true → ⊥) → Some f ≡ cond b o None → ⊥
none_lent true o f n q = n refl
none_lent false o f n q = cc

-- what `front` says of the frame that it gives, and of the lane afterwards
pub record Looks (lane after : Lane) (r : Option FrameRef) : Type 0 where
  pub gives : IfSome r (λ f. Gives (incoming lane) f)
  pub next : IfSome r (λ f. slice_get lane.in_list (length (take lane.taken lane.in_list)) ≡ Some (lent_frame f))
  pub lent : IsSome (incoming lane).lent → IsSome r
  pub all_taken : IfNone r (take lane.taken lane.in_list ≡ lane.in_list)
  pub fronted : Fronted (incoming lane) (incoming after) r

looks_by : (b : Bool) (lane after : Lane) (r : Option FrameRef)
    → nat_lt lane.taken (length lane.in_list) ≡ b
    → after ≡ cond b (record lane { is_lent = true }) (record lane { empty_seen = counted lane.empty_seen; empty_at = lane.taken })
    → lane.empty_seen < 2 ^ 64 → IsSoundLane after → lent_frames r ≡ (incoming after).lent → Looks lane after r
looks_by true lane after None l e t s h =
    absurd (is_there lane.in_list lane.taken (grind (arith, nat_tests)) (rw e at h))
looks_by true lane after (Some f) l e t s h =
    let next = rw e at h in
    let sound = rw e at s in
    record {
      gives = (next_may_come lane (lent_frame f) sound.cut (sym next), λ g q. again lane.is_lent _ _ _ next q);
      next = rw (length-take-le lane.taken lane.in_list sound.taken) (sym next);
      lent = λ _. refl;
      all_taken = tt;
      fronted = rw (e, next) refl;
    }
looks_by false lane after None l e t s h =
    let next = rw e at h in
    let sound = rw e at s in
    record {
      gives = tt;
      next = tt;
      lent = rw (← next) (λ x. x);
      all_taken = take_all lane.taken lane.in_list (grind (arith, nat_tests));
      fronted = (rw (e, length-take-le lane.taken lane.in_list sound.taken) refl, rw e (Rose-counted lane.empty_seen t));
    }
looks_by false lane after (Some f) l e t s h =
    let next = rw e at h in
    let sound = rw e at s in
    absurd (none_lent lane.is_lent _ _ (λ x. let u = sound.lent x in grind (arith, nat_tests)) next)

pub looks : (lane after : Lane) (r : Option FrameRef) → after ≡ looked lane → lane.empty_seen < 2 ^ 64 → IsSoundLane after → lent_frames r ≡ (incoming after).lent → Looks lane after r
looks lane after r e t s h = looks_by (nat_lt lane.taken (length lane.in_list)) lane after r refl e t s h

-- another lane stays, and the written one is as written
pub other_lane : (p : Plain) (i d : ℕ) (new : Lane) → d ≢ i → lane_at (with_lane p i new) d ≡ lane_at p d
other_lane p i d new n = get_or-set_other p.lanes i d new _ n

pub same_lane : (p : Plain) (i : ℕ) (new : Lane) → i < length p.lanes → lane_at (with_lane p i new) i ≡ new
same_lane p i new l = get_or-set_same p.lanes i new _ l

-- what a write of one lane keeps of that lane, it keeps of all
pub field_kept : {A : Type 0} (f : Lane → A) (p : Plain) (i : ℕ) (new : Lane) → i < length p.lanes → f new ≡ f (lane_at p i)
    → ◌≡◌ {A = ℕ → A} (λ d. f (lane_at (with_lane p i new) d)) (λ d. f (lane_at p d))
field_kept f p i new l e = fun_ext (λ d. elim (cases_eq d i) [ inl h ↦ rw h (ap f (same_lane p i new l) ∙ e) | inr h ↦ ap f (other_lane p i d new h) ])

-- a change of what came leaves what was posted
pub out_kept : (p : Plain) (i : ℕ) (new : Lane) → i < length p.lanes → new.out ≡ (lane_at p i).out → out_of (with_lane p i new) ≡ out_of p
out_kept p i new l e = field_kept outgoing p i new l (ap (λ x. record { after = x.after; owed = None; frames = x.frames; lane_full_seen = 0; pool_full_seen = 0; full_at = 0 }) e)

pub home_kept : (p : Plain) (i : ℕ) (new : Lane) → i < length p.lanes → new.in_list ≡ (lane_at p i).in_list → new.moved ≡ (lane_at p i).moved
    → home_of (with_lane p i new) ≡ home_of p
home_kept p i new l e e' =
    let a = field_kept (λ (x : Lane). x.in_list) p i new l e in
    let b = field_kept (λ (x : Lane). x.moved) p i new l e' in
    cc (a, b)

-- what `front` of a plain port says
pub record Fronts (p q : Plain) (i : ℕ) (r : Option FrameRef) : Type 0 where
  pub gives : IfSome r (λ f. Gives (in_of p i) f)
  pub next : IfSome r (λ f. slice_get (lane_at p i).in_list (length (take (lane_at p i).taken (lane_at p i).in_list)) ≡ Some (lent_frame f))
  pub lent : IsSome (in_of p i).lent → IsSome r
  pub all_taken : IfNone r (take (lane_at p i).taken (lane_at p i).in_list ≡ (lane_at p i).in_list)
  pub fronted : Fronted (in_of p i) (in_of q i) r
  pub others : (d : ℕ) → d ≢ i → in_of q d ≡ in_of p d
  pub outgoing : out_of q ≡ out_of p
  pub number : q.number ≡ p.number
  pub peers : length q.lanes ≡ length p.lanes
  pub home : home_of q ≡ home_of p

either : {A : Type 0} (f : Lane → A) (b : Bool) (x y z : Lane) → f x ≡ f z → f y ≡ f z → f (cond b x y) ≡ f z
either f true x y z e e' = e
either f false x y z e e' = e'

looked-out : (lane : Lane) → (looked lane).out ≡ lane.out
looked-out lane = either (λ (x : Lane). x.out) (nat_lt lane.taken (length lane.in_list)) _ _ lane refl refl

looked-in : (lane : Lane) → (looked lane).in_list ≡ lane.in_list
looked-in lane = either (λ (x : Lane). x.in_list) (nat_lt lane.taken (length lane.in_list)) _ _ lane refl refl

looked-moved : (lane : Lane) → (looked lane).moved ≡ lane.moved
looked-moved lane = either (λ (x : Lane). x.moved) (nat_lt lane.taken (length lane.in_list)) _ _ lane refl refl

pub fronts : (p q : Plain) (i : ℕ) (r : Option FrameRef) → i < length p.lanes → q ≡ with_lane p i (looked (lane_at p i))
    → (lane_at p i).empty_seen < 2 ^ 64 → IsSoundLane (lane_at q i) → lent_frames r ≡ (incoming (lane_at q i)).lent → Fronts p q i r
fronts p q i r l e t s h =
    let there : lane_at q i ≡ looked (lane_at p i) = rw (e, same_lane p i (looked (lane_at p i)) l) refl in
    let all = looks (lane_at p i) (lane_at q i) r there t s h in
    record {
      gives = all.gives;
      next = all.next;
      lent = all.lent;
      all_taken = all.all_taken;
      fronted = all.fronted;
      others = λ d n. let k : lane_at q d ≡ lane_at p d = rw (e, other_lane p i d (looked (lane_at p i)) n) refl in ap incoming k;
      outgoing = rw e (out_kept p i (looked (lane_at p i)) l (looked-out (lane_at p i)));
      number = ap (λ x. x.number) e;
      peers = rw (e, length-set) refl;
      home = rw e (home_kept p i (looked (lane_at p i)) l (looked-in (lane_at p i)) (looked-moved (lane_at p i)));
    }

steps_by : (lane : Lane) (b : Bool) (o : Option Frame) → slice_get lane.in_list lane.taken ≡ o → IsSome (cond b o None)
    → incoming (record lane { taken = lane.taken + 1; is_lent = false })
    ≡ advanced (record (incoming lane) { lent = cond b o None })
steps_by lane true (Some f) e h =
    rw (take_more lane.in_list lane.taken f (slice_get_within lane.in_list lane.taken f e), get_or_from_slice_get lane.in_list lane.taken f f e) refl
steps_by lane true None e h = absurd (cc)
steps_by lane false o e h = absurd (cc)

-- the lane after a step over its lent frame, in the words of the port
pub steps : (lane : Lane) → IsSome (incoming lane).lent
    → incoming (record lane { taken = lane.taken + 1; is_lent = false }) ≡ advanced (incoming lane)
steps lane h = steps_by lane lane.is_lent (slice_get lane.in_list lane.taken) refl h

-- the same of a port
pub steps_of : (p q : Plain) (i : ℕ) → i < length p.lanes → IsSome (in_of p i).lent
    → q ≡ with_lane p i (record (lane_at p i) { taken = (lane_at p i).taken + 1; is_lent = false })
    → in_of q i ≡ advanced (in_of p i)
steps_of p q i l h e = rw (e, same_lane p i (record (lane_at p i) { taken = (lane_at p i).taken + 1; is_lent = false }) l) (steps (lane_at p i) h)
