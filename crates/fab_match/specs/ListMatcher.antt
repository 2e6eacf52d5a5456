-- What holds of the lists of a `ListMatcher` at all times.
use Rattle.std.specs.Prelude.{◌≤◌, length, vec_capacity}
use Rattle.fab_match.specs.declared.list_matcher.ListMatcher.TheInside.{Inside}
use Rattle.fab_match.specs.Matcher.{HasDistinctIds}

pub record IsKept (m : Inside) : Type 0 where
  pub posted : HasDistinctIds m.posted.items
  pub unexpected : HasDistinctIds m.unexpected.items
  -- no more are posted than there is room for
  pub within : length m.posted.items ≤ m.room
  -- the room is reserved
  pub reserved : m.room ≤ vec_capacity m.posted
