-- What an application's thread does, at an example.
--     Talks ..        a receive was posted, a message sent, and a completion awaited
--     talked ..       what its function did itself, by what it polled
--     TalksNot ..     one of the two was refused, or memory lacked while it was awaited
use Rattle.std.specs.Prelude.{◌≡◌, ◌⊎◌, ℕ, Bool, List, [], ◌∷◌, ◌++◌, Result, Err}
use Rattle.fab_base.specs.declared.entries.Taken.TheVariants.{Success, Failure}
use Rattle.fab_base.specs.declared.faults.Fault.{Fault}
use Rattle.fab_base.specs.declared.faults.Fault.TheVariants.{NoMemory as LacksMemory}
use Rattle.fab_base.specs.declared.faults.NoMemory.{NoMemory}
use Rattle.fab_face.specs.Answers.{Sends, SendsNot}
use Rattle.fab_face.specs.Held.{Seen}
use Rattle.fab_app.specs.declared.completions.Polled.{Polled}
use Rattle.fab_app.specs.declared.completions.Polled.TheVariants.{Entry, Error, Idle, More}
use Rattle.fab_app.specs.declared.moving.TheConstants.{BUDGET}
use Rattle.fab_app.specs.Cleared.{cleared}
use Rattle.fab_app.specs.Late.{ReceivesLate, ReceivesLateNot}
use Rattle.fab_app.specs.Polls.{Waits}
use Rattle.fab_doings.specs.Doings.{Doing, Had}
use Rattle.fab_doings.specs.Recording.{asks, exchanged, says}

-- what its function did itself: its two calls, and the read of a completion that came
abbrev pub read_of : Polled → List Doing
read_of (Entry entry) = Had (Success entry) ∷ []
read_of (Error entry) = Had (Failure entry) ∷ []
read_of Idle = []
read_of More = []

abbrev pub talked : ℕ → ℕ → List ℕ → List ℕ → Polled → List Doing
talked other tag room bytes polled = exchanged other tag room bytes ++ read_of polled

module _ {Home : Type 0} (fixed : Bool) (other tag : ℕ) (room bytes : List ℕ) (old new : Seen Home) where
  pub record Talks (answer : Result Polled NoMemory) : Type 0 where
    pub asked : Seen Home
    pub sent : Seen Home
    pub receives : ReceivesLate (asks other tag room) old asked
    pub sends : Sends fixed (says other tag bytes) other (cleared asked) sent
    pub waits : Waits fixed BUDGET sent new answer

  abbrev pub TalksNot : Fault → Type 0
  TalksNot why =
      ReceivesLateNot (asks other tag room) old new why
      ⊎ ((asked : Seen Home) × ReceivesLate (asks other tag room) old asked × SendsNot fixed (says other tag bytes) (cleared asked) new why)
      ⊎ ((why ≡ LacksMemory) × (lacked : NoMemory) × Talks (Err lacked))
