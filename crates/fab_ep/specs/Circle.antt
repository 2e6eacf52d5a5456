-- One lane behind another, in the circle in which progress serves them.
--     Follows peers l next     the lane behind this one
--     InCircle peers l         what holds of the lane that is next
--     StandsAt peers from n l  the lane is so many behind `from`, at most once round
use Rattle.std.specs.Prelude.{◌≡◌, ◌+◌, ◌<◌, ◌≤◌, ◌⊎◌, ℕ}
use Rattle.fab_face.specs.declared.lanes.Lane.{Lane}
use Rattle.fab_face.specs.declared.lanes.Lane.TheVariants.{To, From}
use Rattle.fab_face.specs.Circle.{IsOf, number, round}

abbrev pub InCircle : ℕ → Lane → Type 0
InCircle peers l = 0 < peers → IsOf peers l

abbrev pub Follows : ℕ → Lane → Lane → Type 0
Follows peers (To d) next = next ≡ From d
Follows peers (From s) next = ((s + 1 < peers) × (next ≡ To (s + 1))) ⊎ ((peers ≤ s + 1) × (next ≡ To 0))

abbrev pub StandsAt : ℕ → Lane → ℕ → Lane → Type 0
StandsAt peers from n l = (number l ≡ number from + n) ⊎ (number l + round peers ≡ number from + n)
