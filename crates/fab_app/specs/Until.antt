-- Waits that end by the clock.
--     Timed                            an endpoint beside what a clock told
--     Until Step moment late old new   such steps in a row, and behind each a reading of the clock: all of these are before the moment, but the last where it is late
--     PollsUntil                       turns of polls that find no completion, and then one more turn: behind a late reading where that finds none either
--     MovesUntil                       progress in turns, and once more behind a late reading, which there is where what is waited for is not there then
use Rattle.std.specs.Prelude.{◌≡◌, ◌<◌, ◌≤◌, ◌+◌, ℕ, Bool, true, false, cond, Result, Ok, Err}
use Rattle.fab_base.specs.declared.faults.NoMemory.{NoMemory}
use Rattle.fab_face.specs.Held.{Seen}
use Rattle.fab_face.specs.Answers.{MayLack}
use Rattle.fab_app.specs.declared.completions.Polled.{Polled}
use Rattle.fab_app.specs.declared.until.WaitFault.{WaitFault}
use Rattle.fab_app.specs.declared.until.WaitFault.TheVariants.{NoMemory as LacksMemory}
use Rattle.fab_app.specs.Clocks.{Told, read_on}
use Rattle.fab_app.specs.Polls.{Waits, has_come}
use Rattle.fab_app.specs.Progresses.{Progresses}
use Rattle.fab_app.specs.Within.{Misses, MovesOnce, PollsWithin, Times}

pub record Timed (Home : Type 0) : Type 0 where
  pub told : Told
  pub seen : Seen Home

abbrev pub timed : {Home : Type 0} → Told → Seen Home → Timed Home
timed told seen = record { told = told; seen = seen }

-- such a step, and behind it a reading of the clock before the moment
pub record Early {Home : Type 0} (Step : Seen Home → Seen Home → Type 0) (moment : ℕ) (old new : Timed Home) : Type 0 where
  pub reading : ℕ
  pub step : Step old.seen new.seen
  pub reads : new.told ≡ read_on old.told reading
  pub early : reading < moment

-- such a step, and behind it a reading of the clock at the moment or later
pub record Late {Home : Type 0} (Step : Seen Home → Seen Home → Type 0) (moment : ℕ) (old new : Timed Home) : Type 0 where
  pub reading : ℕ
  pub step : Step old.seen new.seen
  pub reads : new.told ≡ read_on old.told reading
  pub late : moment ≤ reading

abbrev pub Until : {Home : Type 0} → (Seen Home → Seen Home → Type 0) → ℕ → Bool → Timed Home → Timed Home → Type 0
Until Step moment false old new = (n : ℕ) × Times (Early Step moment) n old new
Until {Home} Step moment true old new = (n : ℕ) × (mid : Timed Home) × Times (Early Step moment) n old mid × Late Step moment mid new

-- ---- polls

-- a turn is so many polls and one more
pub record PollsUntil {Home : Type 0} (fixed : Bool) (budget spins moment : ℕ) (old new : Timed Home) (answer : Result Polled NoMemory) : Type 0 where
  pub late : Bool
  pub mid : Seen Home
  pub missed : Until (Times (Misses fixed budget) (spins + 1)) moment late old (timed new.told mid)
  pub polls : PollsWithin fixed budget spins mid new.seen answer
  pub all : has_come answer ≡ false → late ≡ true

-- ---- progress

pub record MovesUntil {Home : Type 0} (fixed : Bool) (budget moment : ℕ) (old new : Timed Home) (done : Bool) : Type 0 where
  pub late : Bool
  pub mid : Seen Home
  pub moved : Until (MovesOnce fixed budget) moment late old (timed new.told mid)
  pub last : Times (MovesOnce fixed budget) (cond late 1 0) mid new.seen
  pub all : done ≡ false → late ≡ true

-- ---- by parts

-- the same answer, with the fault of a wait by the clock
abbrev pub ToldAs : Result Polled NoMemory → Result Polled WaitFault → Type 0
ToldAs (Ok polled) told = told ≡ Ok polled
ToldAs (Err lacks) told = told ≡ Err LacksMemory

-- a turn of polls: its answer, or why there is none
abbrev pub Spins : {Home : Type 0} → Bool → ℕ → ℕ → Seen Home → Seen Home → Result Polled WaitFault → Type 0
Spins fixed budget spins old new (Ok polled) = Waits fixed budget old new (Ok polled) × PollsWithin fixed budget spins old new (Ok polled)
Spins fixed budget spins old new (Err why) = (why ≡ LacksMemory) × Progresses old new × MayLack fixed new

abbrev pub HasCome : Result Polled WaitFault → Type 0
HasCome (Ok polled) = has_come (Ok polled) ≡ true
HasCome (Err why) = Unit {0}

-- turns of polls until the moment: the answer, or why there is none
abbrev pub SpinsUntil : {Home : Type 0} → Bool → ℕ → ℕ → ℕ → Timed Home → Timed Home → Result Polled WaitFault → Type 0
SpinsUntil fixed budget spins moment old new (Ok polled) = Waits fixed budget old.seen new.seen (Ok polled) × PollsUntil fixed budget spins moment old new (Ok polled)
SpinsUntil fixed budget spins moment old new (Err why) = Progresses old.seen new.seen × (why ≡ LacksMemory → MayLack fixed new.seen)

-- progress, and behind it a reading of the clock: whether this is late, and then progress once more
abbrev pub MovesBy : {Home : Type 0} → Bool → ℕ → ℕ → Timed Home → Timed Home → Result Bool WaitFault → Type 0
MovesBy fixed budget moment old new (Ok false) = Progresses old.seen new.seen × Early (MovesOnce fixed budget) moment old new
MovesBy {Home} fixed budget moment old new (Ok true) = Progresses old.seen new.seen × ((mid : Seen Home) × Late (MovesOnce fixed budget) moment old (timed new.told mid) × MovesOnce fixed budget mid new.seen)
MovesBy fixed budget moment old new (Err why) = Progresses old.seen new.seen × (why ≡ LacksMemory → MayLack fixed new.seen)
