-- The circle in which progress serves the lanes of a port: to peer 0, from peer 0, to peer 1, and so on.
--     IsOf peers l             the lane is to or from one of so many peers
--     round peers              how many lanes there are
--     ahead peers next l       how many lanes have their turn before this one
use Rattle.std.specs.Prelude.{◌+◌, ◌-◌, ◌<◌, ℕ, Bool, true, false, nat_le}
use Rattle.fab_face.specs.declared.lanes.Lane.{Lane}
use Rattle.fab_face.specs.declared.lanes.Lane.TheVariants.{To, From}

abbrev pub IsOf : ℕ → Lane → Type 0
IsOf peers (To d) = d < peers
IsOf peers (From s) = s < peers

-- the lane's number in the circle, and how many lanes there are
abbrev pub number : Lane → ℕ
number (To d) = d + d
number (From s) = s + s + 1

abbrev pub round : ℕ → ℕ
round peers = peers + peers

abbrev pub ahead_by : Bool → ℕ → ℕ → ℕ → ℕ
ahead_by true lanes next l = l - next
ahead_by false lanes next l = l + lanes - next

abbrev pub ahead : ℕ → Lane → Lane → ℕ
ahead peers next l = ahead_by (nat_le (number next) (number l)) (round peers) (number next) (number l)
