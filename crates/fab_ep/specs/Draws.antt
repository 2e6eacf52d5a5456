-- What draws do before a receive call, behind it, and before the frames of a turn.
--     Drawing old new     draws, one after another
--     Draws old new       the draws that are due, as far as there is room for them
--     Crowded old new     the log has no place for a receive call
use Rattle.std.specs.Prelude.{◌≡◌, ◌+◌, ◌≤◌, ◌⊎◌, Bool, true, false, List, [], ◌∷◌, length, None}
use Rattle.fab_model.specs.Receiving.{draw_due}
use Rattle.fab_face.specs.Held.{Seen}
use Rattle.fab_face.specs.Acts.{Act, Drew, Went, is_draw}
use Rattle.fab_face.specs.Answers.{AllAre, HasPlaces, IsShort, Drawn}

-- a draw was made; or none, since none is due or there is no room for it
abbrev pub DrawsOne : {Home : Type 0} → Seen Home → Seen Home → Bool → Type 0
DrawsOne old new true = HasPlaces old × Went None old new (Drew ∷ []) × (new.pushed ≡ old.pushed) × (new.lanes ≡ old.lanes) × (new.next ≡ old.next)
DrawsOne old new false = (new ≡ old) × Drawn new

pub record Drawing {Home : Type 0} (old new : Seen Home) : Type 0 where
  pub acts : List Act
  pub draws : AllAre is_draw acts
  pub went : Went None old new acts
  pub pushed : new.pushed ≡ old.pushed
  pub lanes : new.lanes ≡ old.lanes
  pub next : new.next ≡ old.next
  -- a draw leaves the log a free place
  pub room : (acts ≡ []) ⊎ HasPlaces old
  pub place : HasPlaces old → length new.log + 1 ≤ new.log_size

abbrev pub Draws : {Home : Type 0} → Seen Home → Seen Home → Type 0
Draws old new = Drawing old new × Drawn new

-- the log was short before the draws, or they left it one place and another is due
abbrev pub Crowded : {Home : Type 0} → Seen Home → Seen Home → Type 0
Crowded old new = IsShort old ⊎ ((draw_due new.held.state.rx ≡ true) × (new.log_size ≡ length new.log + 1))
