-- What a lap of the circle gives to each lane.
--     Lap ..              so many lanes had one turn each
use Rattle.std.specs.Prelude.{◌≡◌, ◌<◌, ◌≤◌, ℕ, Bool, List}
use Rattle.fab_face.specs.declared.lanes.Lane.{Lane}
use Rattle.fab_face.specs.Held.{Seen}
use Rattle.fab_face.specs.Acts.{Act}
use Rattle.fab_face.specs.Answers.{HadTurn, frames_in, frames_on}
use Rattle.fab_face.specs.Circle.{IsOf, ahead, round}
use Rattle.fab_ep.specs.Circle.{InCircle, StandsAt}

-- from the lane `from` on, `n` lanes had their turn, and `next` has the next one
pub record Lap {Home : Type 0} (fixed failed : Bool) (peers : ℕ) (old new : Seen Home) (from next : Lane) (n : ℕ) (acts : List Act) : Type 0 where
  pub first : InCircle peers from
  pub at : StandsAt peers from n next
  pub is : InCircle peers next
  pub within : n ≤ round peers
  pub few : frames_in acts ≤ n
  pub once : (l : Lane) → IsOf peers l → frames_on l acts ≤ 1
  pub later : (l : Lane) → IsOf peers l → n ≤ ahead peers from l → frames_on l acts ≡ 0
  pub had : (l : Lane) → IsOf peers l → ahead peers from l < n → HadTurn fixed failed old new acts l
