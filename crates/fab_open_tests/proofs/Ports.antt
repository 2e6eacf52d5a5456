-- Plain ports as they are made.
use Rattle.std.proofs.Common.{◌≡◌, ◌<◌, Bool, true, true≢false, Result, Ok, Err, ℕ, zero, suc, List, [], ◌∷◌, ◌++◌, length, None, Some, refl, sym, ap, ◌∙◌}
use Rattle.std.specs.Prelude.{◌≢◌, OnOk, replicate, slice_index_or}
use Rattle.std.specs.Result.{is_ok}
use Rattle.std.proofs.lemmas.List.{get_or-set_other, get_or-set_same, length-replicate}
use Rattle.fab_base.specs.declared.frames.Frame.{Frame}
use Rattle.fab_link.specs.Frames.{last_head}
use Rattle.fab_link.proofs.Lanes.{last_head-push}
use Rattle.fab_link.specs.Meaning.{AreFresh}
use Rattle.fab_link.specs.Plain.{Lane, Plain, fresh_lane, in_of, lane_at, out_of, with_lane}
use Rattle.fab_open_tests.specs.Came.{IsReady}

abbrev lanes_made : ℕ → List Lane
lanes_made n = replicate n (fresh_lane None None)

lane_made : (n d : ℕ) → slice_index_or (lanes_made n) d (fresh_lane None None) ≡ fresh_lane None None
lane_made zero d = refl
lane_made (suc n) zero = refl
lane_made (suc n) (suc d) = lane_made n d

pub ready_made : (n number : ℕ) (p : Plain) → p ≡ record { number = number; lanes = replicate n (fresh_lane None None) } → ((d : ℕ) → AreFresh (out_of p d) (in_of p d)) → IsReady n p
ready_made n number p is fresh = record {
  peers = ap (λ (q : Plain). length q.lanes) is ∙ length-replicate n (fresh_lane None None);
  lanes = λ d. ap (λ (q : Plain). lane_at q d) is ∙ lane_made n d;
  fresh = fresh;
}

pub after_in : (n : ℕ) (p : Plain) → IsReady n p → (d : ℕ) → (in_of p d).after ≡ None
after_in n p ready d = ap (λ (lane : Lane). lane.in_after) (ready.lanes d)

-- ---- a frame is brought

abbrev with_frame : Plain → ℕ → Frame → Plain
with_frame p source f = with_lane p source (record (lane_at p source) { in_list = (lane_at p source).in_list ++ f ∷ [] })

brought : (p q : Plain) (source : ℕ) (f : Frame) → source < length p.lanes → q ≡ with_frame p source f → last_head (lane_at q source).in_after (lane_at q source).in_list ≡ Some f.head
brought p q source f below is =
    ap (λ (x : Plain). last_head (lane_at x source).in_after (lane_at x source).in_list) is
    ∙ ap (λ (lane : Lane). last_head lane.in_after lane.in_list) (get_or-set_same p.lanes source (record (lane_at p source) { in_list = (lane_at p source).in_list ++ f ∷ [] }) (fresh_lane None None) below)
    ∙ last_head-push (lane_at p source).in_after (lane_at p source).in_list f

pub brought_if : {A E : Type 0} (r : Result A E) (answer : Bool) (p q : Plain) (source : ℕ) (f : Frame) → answer ≡ is_ok r → source < length p.lanes → OnOk r (q ≡ with_frame p source f) → answer ≡ true
    → last_head (lane_at q source).in_after (lane_at q source).in_list ≡ Some f.head
brought_if (Ok a) answer p q source f value below ok holds = brought p q source f below ok
brought_if (Err e) answer p q source f value below ok holds = absurd (true≢false (sym holds ∙ value))

-- ---- the other peers keep theirs

others : (p q : Plain) (source : ℕ) (f : Frame) (s : ℕ) → q ≡ with_frame p source f → s ≢ source
    → last_head (lane_at q s).in_after (lane_at q s).in_list ≡ last_head (lane_at p s).in_after (lane_at p s).in_list
others p q source f s is apart =
    ap (λ (x : Plain). last_head (lane_at x s).in_after (lane_at x s).in_list) is
    ∙ ap (λ (lane : Lane). last_head lane.in_after lane.in_list) (get_or-set_other p.lanes source s (record (lane_at p source) { in_list = (lane_at p source).in_list ++ f ∷ [] }) (fresh_lane None None) apart)

pub others_if : {A E : Type 0} (r : Result A E) (answer : Bool) (p q : Plain) (source : ℕ) (f : Frame) (s : ℕ) → answer ≡ is_ok r → OnOk r (q ≡ with_frame p source f) → answer ≡ true → s ≢ source
    → last_head (lane_at q s).in_after (lane_at q s).in_list ≡ last_head (lane_at p s).in_after (lane_at p s).in_list
others_if (Ok a) answer p q source f s value ok holds apart = others p q source f s ok apart
others_if (Err e) answer p q source f s value ok holds apart = absurd (true≢false (sym holds ∙ value))
