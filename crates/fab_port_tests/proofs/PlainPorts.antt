-- Plain ports as they are made.
use Rattle.std.proofs.Common.{◌≡◌, ℕ, zero, suc, refl, ap, ◌∙◌, None}
use Rattle.std.specs.Prelude.{replicate, slice_index_or}
use Rattle.fab_link.specs.Plain.{Lane, Plain, fresh_lane, lane_at, out_of}
use Rattle.fab_port_suite.specs.Lanes.{AreBetween}
use Rattle.fab_port_suite.proofs.Between.{fresh_between}

lane_made : (n d : ℕ) → slice_index_or (replicate n (fresh_lane None None)) d (fresh_lane None None) ≡ fresh_lane None None
lane_made zero d = refl
lane_made (suc n) zero = refl
lane_made (suc n) (suc d) = lane_made n d

pub made_between : (me n : ℕ) (p : Plain) → p ≡ record { number = me; lanes = replicate n (fresh_lane None None) } → AreBetween (out_of p)
made_between me n p is d = let made : lane_at p d ≡ fresh_lane None None = ap (λ (q : Plain). lane_at q d) is ∙ lane_made n d in
    fresh_between (out_of p d) (ap (λ (l : Lane). l.out.frames) made) (ap (λ (l : Lane). l.out.after) made)
