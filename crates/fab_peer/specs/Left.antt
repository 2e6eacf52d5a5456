-- What want of memory leaves of a turn: the acts that were made stay, and at most the last thing of the peer's own is not written.
--     Missed          what is not written: nothing, the result of the last line that was done, or the last entry that was read
--     regained m b    the peer with what it missed
--     LeftBy a b      a turn led from a to the peer with what it missed
use Rattle.std.specs.Prelude.{◌≡◌, List, [], ◌∷◌, ◌++◌}
use Rattle.fab_base.specs.declared.entries.Kept.{Kept}
use Rattle.fab_base.specs.declared.peers.LineResult.{LineResult}
use Rattle.fab_face.specs.Acts.{Act, Ported, steps_of}
use Rattle.fab_peer.specs.Turns.{Told, living_of, LivesBy, Turned}

pub data Missed : Type 0 where
  Nothing : Missed
  Answer : (result : LineResult) → Missed
  Completion : (entry : Kept) → Missed

abbrev pub regained : {Home : Type 0} → Missed → Told Home → Told Home
regained Nothing b = b
regained (Answer result) b = record b { results = b.results ++ result ∷ [] }
regained (Completion entry) b = record b { kept = b.kept ++ entry ∷ [] }

-- these acts are all that the port moved, and they lead, by what a turn that is Ok says, to the peer with what it missed and with their steps
pub record LeftBy {Home : Type 0} (a b : Told Home) : Type 0 where
  pub acts : List Act
  pub missed : Missed
  pub turned : Turned a (record (regained missed b) { schedule = b.schedule ++ steps_of acts }) acts

-- ---- inside a turn

-- the same of a part of a turn, whatever its schedule
pub record Left {Home : Type 0} (a b : Told Home) : Type 0 where
  pub acts : List Act
  pub missed : Missed
  pub lives : LivesBy (living_of a) acts (living_of (regained missed b))
  pub ported : Ported a.seen.lanes b.seen.lanes acts
  pub lines : b.lines ≡ a.lines

-- but for its log and its schedule the peer is as it was
abbrev pub Unwritten : {Home : Type 0} → Told Home → Told Home → Type 0
Unwritten a b = (living_of b ≡ living_of a) × (b.seen.lanes ≡ a.seen.lanes)
