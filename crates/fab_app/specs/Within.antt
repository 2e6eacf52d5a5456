-- How often a call tries before it gives up.
--     Times Step n old new      n such steps in a row
--     PollsWithin               at most so many polls that find no completion, and then one more: all of them where that finds none either
--     MovesWithin               progress at most so many times, and just so many times where what is waited for is not there then
--     SendsWithin, AsksWithin         at most so many tries that are refused for now, each with progress behind it, and then one more, which is Ok
--     SendsWithinNot, AsksWithinNot   the same where the last is refused, for now only behind all of them
use Rattle.std.specs.Prelude.{◌≡◌, ◌≤◌, ℕ, zero, suc, Bool, true, false, Result, Ok}
use Rattle.fab_base.specs.declared.faults.Busy.{Busy}
use Rattle.fab_base.specs.declared.faults.Fault.{Fault}
use Rattle.fab_base.specs.declared.faults.Fault.TheVariants.{Again}
use Rattle.fab_base.specs.declared.faults.NoMemory.{NoMemory}
use Rattle.fab_model.specs.Calls.{Call}
use Rattle.fab_face.specs.Held.{Seen}
use Rattle.fab_face.specs.Answers.{Sends, SendsNot}
use Rattle.fab_app.specs.declared.completions.Polled.{Polled}
use Rattle.fab_app.specs.declared.moving.Next.{Next}
use Rattle.fab_app.specs.Cleared.{cleared, is_again}
use Rattle.fab_app.specs.Late.{ReceivesLate, ReceivesLateNot}
use Rattle.fab_app.specs.Polls.{Polls, has_come}
use Rattle.fab_app.specs.Progresses.{Moves}

abbrev pub Times : {State : Type 0} → (State → State → Type 0) → ℕ → State → State → Type 0
Times Step zero old new = new ≡ old
Times {State} Step (suc n) old new = (mid : State) × Times Step n old mid × Step mid new

-- ---- polls

-- a poll that found no completion
pub record Misses {Home : Type 0} (fixed : Bool) (budget : ℕ) (old new : Seen Home) : Type 0 where
  pub told : Polled
  pub polls : Polls fixed budget (cleared old) new (Ok told)
  pub none : has_come (Ok told) ≡ false

pub record PollsWithin {Home : Type 0} (fixed : Bool) (budget most : ℕ) (old new : Seen Home) (answer : Result Polled NoMemory) : Type 0 where
  pub made : ℕ
  pub few : made ≤ most
  pub mid : Seen Home
  pub missed : Times (Misses fixed budget) made old mid
  pub polls : Polls fixed budget (cleared mid) new answer
  pub all : has_come answer ≡ false → made ≡ most

-- ---- progress

pub record MovesOnce {Home : Type 0} (fixed : Bool) (budget : ℕ) (old new : Seen Home) : Type 0 where
  pub told : Result Next NoMemory
  pub moves : Moves fixed budget (cleared old) new told

pub record MovesWithin {Home : Type 0} (fixed : Bool) (budget most : ℕ) (old new : Seen Home) (done : Bool) : Type 0 where
  pub made : ℕ
  pub few : made ≤ most
  pub moved : Times (MovesOnce fixed budget) made old new
  pub all : done ≡ false → made ≡ most

-- ---- calls that are tried again

-- a transmit call that is refused for now, and progress behind it
pub record SendMisses {Home : Type 0} (fixed : Bool) (budget : ℕ) (call : Call) (old new : Seen Home) : Type 0 where
  pub mid : Seen Home
  pub busy : Busy
  pub refused : SendsNot fixed call (cleared old) mid (Again busy)
  pub moves : MovesOnce fixed budget mid new

pub record SendsWithin {Home : Type 0} (fixed : Bool) (budget most : ℕ) (call : Call) (dest : ℕ) (old new : Seen Home) : Type 0 where
  pub made : ℕ
  pub few : made ≤ most
  pub mid : Seen Home
  pub missed : Times (SendMisses fixed budget call) made old mid
  pub sends : Sends fixed call dest (cleared mid) new

pub record SendsWithinNot {Home : Type 0} (fixed : Bool) (budget most : ℕ) (call : Call) (old new : Seen Home) (why : Fault) : Type 0 where
  pub made : ℕ
  pub few : made ≤ most
  pub mid : Seen Home
  pub missed : Times (SendMisses fixed budget call) made old mid
  pub refused : SendsNot fixed call (cleared mid) new why
  pub all : is_again why ≡ true → made ≡ most

-- the same of a receive call
pub record AskMisses {Home : Type 0} (fixed : Bool) (budget : ℕ) (call : Call) (old new : Seen Home) : Type 0 where
  pub mid : Seen Home
  pub busy : Busy
  pub refused : ReceivesLateNot call old mid (Again busy)
  pub moves : MovesOnce fixed budget mid new

pub record AsksWithin {Home : Type 0} (fixed : Bool) (budget most : ℕ) (call : Call) (old new : Seen Home) : Type 0 where
  pub made : ℕ
  pub few : made ≤ most
  pub mid : Seen Home
  pub missed : Times (AskMisses fixed budget call) made old mid
  pub receives : ReceivesLate call mid new

pub record AsksWithinNot {Home : Type 0} (fixed : Bool) (budget most : ℕ) (call : Call) (old new : Seen Home) (why : Fault) : Type 0 where
  pub made : ℕ
  pub few : made ≤ most
  pub mid : Seen Home
  pub missed : Times (AskMisses fixed budget call) made old mid
  pub refused : ReceivesLateNot call mid new why
  pub all : is_again why ≡ true → made ≡ most
