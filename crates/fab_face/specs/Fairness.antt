-- What progress gives to each lane in calls one after another.
--     Polls              calls of progress, each from the lane that the one before left next
--     EachHasItsTurn     in calls that move as many frames as there are lanes each lane has a turn
use Rattle.std.specs.Prelude.{◌≡◌, ◌≤◌, ◌⊎◌, ℕ, Bool, List, [], ◌∷◌, sum_by}
use Rattle.fab_face.specs.declared.lanes.Lane.{Lane}
use Rattle.fab_face.specs.Held.{Seen}
use Rattle.fab_face.specs.Acts.{Act}
use Rattle.fab_face.specs.Answers.{HadTurn, Serves, frames_in}
use Rattle.fab_face.specs.Circle.{IsOf, round}

-- a call of progress: the endpoint before it and after it, what it did, and whether memory lacked
pub record Poll (Home : Type 0) : Type 0 where
  pub old : Seen Home
  pub new : Seen Home
  pub acts : List Act
  pub failed : Bool

-- the lane `from` has the first turn
abbrev pub Polls : {Home : Type 0} → Bool → ℕ → Lane → List (Poll Home) → Type 0
Polls fixed peers from [] = Unit {0}
Polls fixed peers from (p ∷ ps) = (p.old.next ≡ from) × (p.old.lanes.peers ≡ peers) × Serves fixed p.failed p.old p.new p.acts × Polls fixed peers p.new.next ps

abbrev pub frames_of : {Home : Type 0} → List (Poll Home) → ℕ
frames_of ps = sum_by (λ p. frames_in p.acts) ps

-- the lane had a turn in one of them
abbrev pub OneGave : {Home : Type 0} → Bool → Lane → List (Poll Home) → Type 0
OneGave fixed l [] = ⊥
OneGave fixed l (p ∷ ps) = HadTurn fixed p.failed p.old p.new p.acts l ⊎ OneGave fixed l ps

-- in calls that move twice as many frames as there are peers each lane has a turn
abbrev pub EachHasItsTurn : Type 0 → Bool → Type 0
EachHasItsTurn Home fixed = (peers : ℕ) (from : Lane) (ps : List (Poll Home)) (l : Lane) → Polls fixed peers from ps → IsOf peers l → round peers ≤ frames_of ps → OneGave fixed l ps
