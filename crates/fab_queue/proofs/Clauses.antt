-- A look at a lane, and a step over its frame, in the words of all ports.
use Rattle.std.proofs.Common.{◌≡◌, ◌≢◌, ℕ, suc, ◌<◌, ◌++◌, ◌∷◌, [], length, List, Some, None, arith, refl, sym, ap, ◌∙◌, subst, inl, inr, get_or-set_other, get_or-set_same}
use std.Path.{fun_ext}
use mathlib.Core.List.{map-append}
use mathlib.Core.Logic.{dite}
use native.Mathlib.Decide.{ℕ_discrete}
use Rattle.std.specs.Prelude.{Option, IfSome, IfNone, IsSome, ⊤}
use Rattle.std.proofs.lemmas.Option.{none-some, same_Some}
use Rattle.fab_base.specs.declared.frames.Frame.{Frame}
use Rattle.fab_base.specs.declared.frames.FrameRef.{FrameRef}
use Rattle.fab_base.specs.Counts.{Rose}
use Rattle.fab_link.specs.declared.moves.Move.{Move}
use Rattle.fab_link.specs.declared.moves.Move.TheVariants.{Take}
use Rattle.fab_link.specs.Frames.{lent_frame, MayCome}
use Rattle.fab_link.specs.Meaning.{Incoming, Fronted, Gives, GrewBy, taken_end, advanced}
use Rattle.fab_link.specs.Plain.{lent_frames}
use Rattle.fab_queue.specs.declared.lane.Sent.{Sent}
use Rattle.fab_queue.specs.Lanes.{frame_of, frames_of}
use Rattle.fab_queue.specs.Ends.{In, new_in, frame_in, taken_one, Looked, LookedAt}
use Rattle.fab_queue.specs.Ports.{Queued, no_lane, in_at, out_of, in_of, incoming, with_in, moves_of, lanes_of, PopFoundNone}

-- what `front` says of one lane
pub record Looks (old new : In) (r : Option FrameRef) : Type 0 where
  pub gives : IfSome r (λ f. Gives (incoming old) f)
  pub lent : IsSome (incoming old).lent → IsSome r
  pub fronted : Fronted (incoming old) (incoming new) r

given : (old : In) (r : Option FrameRef) (o : Option Frame) → lent_frames r ≡ o → IfSome r (λ f. MayCome (taken_end (incoming old)) (lent_frame f)) → ((g : Frame) → (incoming old).lent ≡ Some g → o ≡ Some g)
    → IfSome r (λ f. Gives (incoming old) f)
given old None o e next same = tt
given old (Some f) o e next same = (next, λ g is. same_Some (lent_frame f) g (e ∙ same g is))

fronted_some : (old new : Incoming) (r : Option FrameRef) (g : Frame) → lent_frames r ≡ Some g → new ≡ record old { lent = Some g } → Fronted old new r
fronted_some old new None g e is = absurd (none-some g e)
fronted_some old new (Some f) g e is = is ∙ ap (λ (x : Option Frame). record old { lent = x }) (sym e)

fronted_none : (old new : Incoming) (r : Option FrameRef) → lent_frames r ≡ None → new ≡ record old { empty_seen = new.empty_seen; empty_at = length old.taken } → Rose old.empty_seen new.empty_seen → Fronted old new r
fronted_none old new None e is rose = (is, rose)
fronted_none old new (Some f) e is rose = absurd (none-some (lent_frame f) (sym e))

some_is : (r : Option FrameRef) (g : Frame) → lent_frames r ≡ Some g → IsSome r
some_is None g e = absurd (none-some g e)
some_is (Some f) g e = refl

no_frame : (o : Option Sent) → o ≡ None → IsSome (frame_in o) → ⊥
no_frame None e s = absurd (cc)
no_frame (Some x) e s = none-some x (sym e)

taken_length : (xs : List Sent) → length xs ≡ length (frames_of xs)
taken_length [] = refl
taken_length (x ∷ xs) = ap suc (taken_length xs)

looks_at : (o : Option Sent) (old new : In) (r : Option FrameRef) → old.lent ≡ o → LookedAt o old new → lent_frames r ≡ frame_in new.lent
    → IfSome r (λ f. MayCome (taken_end (incoming new)) (lent_frame f)) → Looks old new r
looks_at (Some x) old new r was looked lent next =
    let is : (incoming old).lent ≡ Some x.frame = ap frame_in was in
    let e : lent_frames r ≡ Some x.frame = lent ∙ ap (λ (i : In). frame_in i.lent) looked ∙ is in
    let next' = subst (λ (i : In). IfSome r (λ f. MayCome (taken_end (incoming i)) (lent_frame f))) looked next in record {
      gives = given old r (Some x.frame) e next' (λ g h. sym is ∙ h);
      lent = λ _. some_is r x.frame e;
      fronted = fronted_some (incoming old) (incoming new) r x.frame e (ap incoming looked ∙ ap (λ (z : Option Frame). record (incoming old) { lent = z }) is);
    }
looks_at None old new r was (inl came) lent next =
    let x = came.0 in
    let e : lent_frames r ≡ Some x.frame = lent ∙ ap (λ (i : In). frame_in i.lent) came.2 in
    let next' = subst (λ (i : In). IfSome r (λ f. MayCome (taken_end (incoming i)) (lent_frame f))) came.2 next in record {
      gives = given old r (Some x.frame) e next' (λ g h. absurd (none-some g (ap frame_in (sym was) ∙ h)));
      lent = λ _. some_is r x.frame e;
      fronted = fronted_some (incoming old) (incoming new) r x.frame e (ap incoming came.2);
    }
looks_at None old new r was (inr none) lent next =
    let e : lent_frames r ≡ None = lent ∙ ap (λ (i : In). frame_in i.lent) none ∙ ap frame_in was in
    let next' = subst (λ (i : In). IfSome r (λ f. MayCome (taken_end (incoming i)) (lent_frame f))) none next in record {
      gives = given old r None e next' (λ g h. absurd (none-some g (ap frame_in (sym was) ∙ h)));
      lent = λ is. absurd (no_frame old.lent was is);
      fronted = fronted_none (incoming old) (incoming new) r e
          (ap incoming none ∙ (λ i. record (incoming old) { empty_seen = (sym none i).empty_seen; empty_at = taken_length old.taken i }))
          (inl (subst (λ (i : In). old.empty_seen < i.empty_seen) (sym none) (omega arith)));
    }

pub always_some : (r : Option FrameRef) → IfSome r (λ _. ⊤)
always_some None = tt
always_some (Some f) = tt

pub always_none : (r : Option FrameRef) → IfNone r ⊤
always_none None = tt
always_none (Some f) = tt

-- what a write of one end keeps of it, it keeps of all
pub in_kept : {A : Type 0} (f : In → A) (p : Queued) (s : ℕ) (i : In) (ms : List Move) → s < length p.ins → f i ≡ f (in_at p s) → ◌≡◌ {A = ℕ → A} (λ e. f (in_at (with_in p s i ms) e)) (λ e. f (in_at p e))
in_kept f p s i ms near same = fun_ext (λ e. dite (ℕ_discrete e s)
    (λ is. subst (λ (z : ℕ). f (in_at (with_in p s i ms) z) ≡ f (in_at p z)) (sym is) (ap f (get_or-set_same p.ins s i (new_in no_lane) near) ∙ same))
    (λ ne. ap f (get_or-set_other p.ins s e i (new_in no_lane) ne)))

-- what `front` says of a port
pub record Fronts (p q : Queued) (s : ℕ) (r : Option FrameRef) : Type 0 where
  pub one : Looks (in_at p s) (in_at q s) r
  pub others : (d : ℕ) → d ≢ s → in_of q d ≡ in_of p d
  pub outgoing : out_of q ≡ out_of p
  pub number : q.number ≡ p.number
  pub peers : length q.outs ≡ length p.outs
  pub home : lanes_of q ≡ lanes_of p
  pub moves : moves_of q ≡ moves_of p
  pub saw : IfNone r (PopFoundNone p q s)

-- no answer comes only of a pop that found none
saw_by : (o : Option Sent) (p q : Queued) (s : ℕ) (r : Option FrameRef) → (in_at p s).lent ≡ o → LookedAt o (in_at p s) (in_at q s) → lent_frames r ≡ frame_in (in_at q s).lent → IfNone r (PopFoundNone p q s)
saw_by o p q s (Some f) was looked lent = tt
saw_by (Some x) p q s None was looked lent = absurd (none-some x.frame (lent ∙ ap (λ (i : In). frame_in i.lent) looked ∙ ap frame_in was))
saw_by None p q s None was (inl came) lent = absurd (none-some came.0.frame (lent ∙ ap (λ (i : In). frame_in i.lent) came.2))
saw_by None p q s None was (inr none) lent = (was, none)

looked_lane : (o : Option Sent) (old new : In) → LookedAt o old new → new.lane ≡ old.lane
looked_lane (Some x) old new looked = ap (λ (i : In). i.lane) looked
looked_lane None old new (inl came) = ap (λ (i : In). i.lane) came.2
looked_lane None old new (inr none) = ap (λ (i : In). i.lane) none

pub fronts : (p q : Queued) (s : ℕ) (r : Option FrameRef) → s < length p.ins → Looked (in_at p s) (in_at q s) → q ≡ with_in p s (in_at q s) p.moves
    → lent_frames r ≡ (in_of q s).lent → IfSome r (λ f. MayCome (taken_end (in_of q s)) (lent_frame f)) → Fronts p q s r
fronts p q s r near looked rest lent next = record {
  one = looks_at (in_at p s).lent (in_at p s) (in_at q s) r refl looked lent next;
  others = λ d ne. ap (λ (z : Queued). in_of z d) rest ∙ ap incoming (get_or-set_other p.ins s d (in_at q s) (new_in no_lane) ne);
  outgoing = ap out_of rest;
  number = ap (λ (z : Queued). z.number) rest;
  peers = ap (λ (z : Queued). length z.outs) rest;
  home = ap lanes_of rest ∙ (λ i. record { to = (lanes_of p).to; from = in_kept (λ (z : In). z.lane) p s (in_at q s) p.moves near (looked_lane (in_at p s).lent (in_at p s) (in_at q s) looked) i });
  moves = ap moves_of rest;
  saw = saw_by (in_at p s).lent p q s r refl looked lent;
}

-- what `advance` says of a port
pub record Steps (p q : Queued) (s : ℕ) : Type 0 where
  pub taken : in_of q s ≡ advanced (in_of p s)
  pub moves : GrewBy (Take s) (Some (moves_of p)) (Some (moves_of q))
  pub others : (d : ℕ) → d ≢ s → in_of q d ≡ in_of p d
  pub outgoing : out_of q ≡ out_of p
  pub number : q.number ≡ p.number
  pub peers : length q.outs ≡ length p.outs
  pub home : lanes_of q ≡ lanes_of p

is_there : (o : Option Sent) → IsSome (frame_in o) → (x : Sent) × (o ≡ Some x)
is_there None e = absurd (cc)
is_there (Some x) e = (x, refl)

advanced_one : (i : In) (x : Sent) (o : Option Sent) → o ≡ Some x → i.lent ≡ o → incoming (taken_one i x) ≡ advanced (incoming i)
advanced_one i x o is lent = let e : (incoming i).lent ≡ Some x.frame = ap frame_in (lent ∙ is) in
    (λ j. record { after = None; taken = map-append frame_of i.taken (x ∷ []) j; lent = None; empty_seen = i.empty_seen; empty_at = i.empty_at })
    ∙ ap (λ (z : Option Frame). advanced (record (incoming i) { lent = z })) (sym e)

pub steps : (p q : Queued) (s : ℕ) → s < length p.ins → IsSome (in_of p s).lent → ((x : Sent) → (in_at p s).lent ≡ Some x → q ≡ with_in p s (taken_one (in_at p s) x) (p.moves ++ Take s x.number ∷ [])) → Steps p q s
steps p q s near lent tells = let there = is_there (in_at p s).lent lent in let x = there.0 in let is = tells x there.1 in let new = taken_one (in_at p s) x in record {
  taken = ap (λ (z : Queued). in_of z s) is ∙ ap incoming (get_or-set_same p.ins s new (new_in no_lane) near) ∙ advanced_one (in_at p s) x (Some x) refl there.1;
  moves = (x.number, ap (λ (z : Queued). Some z.moves) is);
  others = λ d ne. ap (λ (z : Queued). in_of z d) is ∙ ap incoming (get_or-set_other p.ins s d new (new_in no_lane) ne);
  outgoing = ap out_of is;
  number = ap (λ (z : Queued). z.number) is;
  peers = ap (λ (z : Queued). length z.outs) is;
  home = ap lanes_of is ∙ (λ i. record { to = (lanes_of p).to; from = in_kept (λ (z : In). z.lane) p s new (p.moves ++ Take s x.number ∷ []) near refl i });
}
