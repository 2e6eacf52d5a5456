-- A poll: progress, and then the first completion.
--     Polls fixed budget old new answer
--     Waits fixed budget old new answer      polls that found none, and then one more
use Rattle.std.specs.Prelude.{◌≡◌, ◌⊎◌, Bool, true, false, ℕ, ◌≢◌, ◌<◌, List, [], None, Result, Ok, Err}
use Rattle.fab_base.specs.declared.entries.Entry.{Entry as EntryValue}
use Rattle.fab_base.specs.declared.entries.ErrEntry.{ErrEntry as ErrEntryValue}
use Rattle.fab_base.specs.declared.entries.Taken.TheVariants.{Success, Failure}
use Rattle.fab_base.specs.declared.faults.NoMemory.{NoMemory}
use Rattle.fab_model.specs.Peers.{unread}
use Rattle.fab_face.specs.declared.events.Moved.{Moved}
use Rattle.fab_face.specs.declared.events.Stop.{Stop}
use Rattle.fab_face.specs.declared.events.Stop.TheVariants.{Idle as StoppedIdle, Budget, CqFull, LogFull}
use Rattle.fab_face.specs.Held.{Seen}
use Rattle.fab_face.specs.Acts.{Act}
use Rattle.fab_face.specs.Answers.{IsIdle, Pops, Progressed}
use Rattle.fab_app.specs.declared.completions.Polled.{Polled}
use Rattle.fab_app.specs.declared.completions.Polled.TheVariants.{Entry, Error, Idle, More}
use Rattle.fab_app.specs.Cleared.{cleared}
use Rattle.fab_app.specs.Progresses.{Progresses}

-- there is no completion, and none was taken
abbrev pub HasNone : {Home : Type 0} → Seen Home → Seen Home → Type 0
HasNone mid new = (new ≡ mid) × (unread mid.held.state.cq ≡ None)

-- what is told where there is no completion
abbrev pub told_of : Stop → Polled
told_of Budget = More
told_of LogFull = More
told_of StoppedIdle = Idle
told_of CqFull = Idle

abbrev pub EndsPoll : Result Moved NoMemory → Result Polled NoMemory → Type 0
EndsPoll (Ok moved) answer = answer ≡ Ok (told_of moved.stop)
EndsPoll (Err lacks) answer = answer ≡ Err lacks

abbrev pub PollsAs : {Home : Type 0} → ℕ → Seen Home → Seen Home → Seen Home → List Act → Result Moved NoMemory → Result Polled NoMemory → Type 0
PollsAs budget old mid new acts moved (Ok (Entry entry)) = Pops (Success entry) mid new
PollsAs budget old mid new acts moved (Ok (Error entry)) = Pops (Failure entry) mid new
PollsAs budget old mid new acts moved (Ok Idle) = HasNone mid new × IsIdle old mid
PollsAs budget old mid new acts moved (Ok More) = HasNone mid new × EndsPoll moved (Ok More) × (0 < budget → acts ≢ [])
PollsAs budget old mid new acts moved (Err lacks) = HasNone mid new × (moved ≡ Err lacks)

pub record Polls {Home : Type 0} (fixed : Bool) (budget : ℕ) (old new : Seen Home) (answer : Result Polled NoMemory) : Type 0 where
  pub mid : Seen Home
  pub moved : Result Moved NoMemory
  pub progressed : Progressed fixed budget old mid moved
  pub told : PollsAs budget old mid new progressed.acts moved answer

-- progress of earlier polls, which found no completion, and then a poll
pub record Waits {Home : Type 0} (fixed : Bool) (budget : ℕ) (old new : Seen Home) (answer : Result Polled NoMemory) : Type 0 where
  pub mid : Seen Home
  pub before : Progresses old mid
  pub polls : Polls fixed budget (cleared mid) new answer

-- ---- by parts

-- a completion, or want of memory
abbrev pub has_come : Result Polled NoMemory → Bool
has_come (Ok (Entry entry)) = true
has_come (Ok (Error entry)) = true
has_come (Ok Idle) = false
has_come (Ok More) = false
has_come (Err lacks) = true

-- the first completion, which is told, or else the progress
abbrev pub TakesFirst : {Home : Type 0} → Result Moved NoMemory → Seen Home → Seen Home → Result Polled NoMemory → Type 0
TakesFirst moved old new answer = ((entry : EntryValue) × (answer ≡ Ok (Entry entry)) × Pops (Success entry) old new)
    ⊎ (((error : ErrEntryValue) × (answer ≡ Ok (Error error)) × Pops (Failure error) old new) ⊎ (HasNone old new × EndsPoll moved answer))
