-- How much a turn does: reads, and then laps, in each of which lines and frames have their share.
--     Lap fixed a d          up to 16 lines, then progress with up to 64 frames, then reads
--     Laps fixed n a b       a lap, and so many more
--     InLaps fixed looks a b     a turn: reads, and then a lap and up to 1,024 more
use Rattle.std.specs.Prelude.{◌≡◌, ℕ, ◌≤◌, ◌⊎◌, zero, suc, Bool, List, [], Ok, count_by}
use Rattle.fab_face.specs.declared.events.Moved.{Moved}
use Rattle.fab_face.specs.Acts.{Act, Ported}
use Rattle.fab_face.specs.Held.{Seen}
use Rattle.fab_face.specs.Answers.{AllAre, Progressed}
use Rattle.fab_peer.specs.Turns.{Told, living_of, LivesBy, Waits, with_seen, is_line, is_read}

-- entries are read, and nothing else is done
pub record Reads {Home : Type 0} (a b : Told Home) : Type 0 where
  pub acts : List Act
  pub are : AllAre is_read acts
  pub lives : LivesBy (living_of a) acts (living_of b)
  pub lanes : b.seen.lanes ≡ a.seen.lanes
  pub size : b.seen.log_size ≡ a.seen.log_size

-- Between its lines and its progress the peer is `mid`: the lines lead there from what it was, on its own lanes and with its log emptied. So what the port
-- did behind them is of the progress.
pub record Lap {Home : Type 0} (fixed : Bool) (a d : Told Home) : Type 0 where
  pub acts : List Act
  pub mid : Told Home
  pub lines : LivesBy (living_of a) acts (living_of mid)
  pub ported : Ported a.seen.lanes mid.seen.lanes acts
  pub log : mid.seen.log ≡ []
  pub size : mid.seen.log_size ≡ a.seen.log_size
  pub few : count_by is_line acts ≤ 16
  -- no fewer than that while the next line can be done, whatever frames moved before
  pub whole : (count_by is_line acts ≡ 16) ⊎ Waits mid
  -- however many lines were done, frames move then, no fewer than 64 while there is something to move
  pub near : Seen Home
  pub moved : Moved
  pub progressed : Progressed fixed 64 mid.seen near (Ok moved)
  pub reads : Reads (with_seen mid near) d

abbrev pub Laps : {Home : Type 0} → Bool → ℕ → Told Home → Told Home → Type 0
Laps fixed zero a b = Lap fixed a b
Laps {Home} fixed (suc n) a c = (b : Told Home) × Laps fixed n a b × Lap fixed b c

pub record InLaps {Home : Type 0} (fixed : Bool) (looks : ℕ) (a b : Told Home) : Type 0 where
  pub start : Told Home
  pub reads : Reads a start
  pub more : ℕ
  pub most : more ≤ 1_024
  -- with no looks a turn is one lap
  pub one : looks ≡ 0 → more ≡ 0
  pub laps : Laps fixed more start b
