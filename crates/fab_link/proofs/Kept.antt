-- What holds of a lane's fields still holds after a change.
use Rattle.std.proofs.Common.{◌≡◌, ℕ, Bool, List, [], ◌∷◌, ◌++◌, arith, length-append}
use Rattle.std.specs.Prelude.{Option}
use Rattle.fab_base.specs.declared.frames.FrameHead.{FrameHead}
use Rattle.fab_base.specs.declared.frames.Frame.{Frame}
use Rattle.fab_link.specs.Frames.{last_head, MayCome}
use Rattle.fab_link.proofs.Lanes.{IsLane-push}
use Rattle.fab_link.specs.Plain.{IsKept}

-- a frame was brought
pub IsKept-bring : (out left old new : List Frame) (moved taken : ℕ) (is_lent : Bool) (after : Option FrameHead) (f : Frame)
    → IsKept out left old moved taken is_lent after → MayCome (last_head after old) f → new ≡ old ++ f ∷ []
    → IsKept out left new moved taken is_lent after
IsKept-bring out left old new moved taken is_lent after f k m e =
    rw e (record {
      left_is = k.left_is;
      moved_within = k.moved_within;
      taken_within = simp length-append (omega (arith, k.taken_within));
      lent_within = λ h. simp length-append (omega (arith, k.lent_within h));
      cut = IsLane-push after old f k.cut m;
    })
