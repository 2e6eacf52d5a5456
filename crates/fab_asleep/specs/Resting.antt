-- What is found before a thread sleeps, and how a look ends a wait.
--     FoundNothing fixed budget old new     a poll that found no completion, or progress, and nothing was left to move
--     EndsBy                                 progress by the clock that ends a wait
use Rattle.std.specs.Prelude.{◌⊎◌, ℕ, Bool, true, Result, Ok, Err}
use Rattle.fab_base.specs.declared.faults.NoMemory.{NoMemory}
use Rattle.fab_face.specs.Held.{Seen}
use Rattle.fab_app.specs.declared.completions.Polled.TheVariants.{Idle as PolledIdle}
use Rattle.fab_app.specs.declared.moving.Next.TheVariants.{Idle as NextIdle}
use Rattle.fab_app.specs.declared.until.WaitFault.{WaitFault}
use Rattle.fab_app.specs.Cleared.{cleared}
use Rattle.fab_app.specs.Polls.{Polls}
use Rattle.fab_app.specs.Progresses.{Moves}
use Rattle.fab_app.specs.Until.{MovesBy, Timed}

abbrev pub FoundNothing : {Home : Type 0} → Bool → ℕ → Seen Home → Seen Home → Type 0
FoundNothing fixed budget old new = Polls fixed budget (cleared old) new (Ok PolledIdle) ⊎ Moves fixed budget (cleared old) new (Ok NextIdle)

-- the moment has passed, and progress was made once more, or there was a fault
abbrev pub EndsBy : {Home : Type 0} → Bool → ℕ → ℕ → Timed Home → Timed Home → Result Bool WaitFault → Type 0
EndsBy fixed budget moment old new (Ok done) = MovesBy fixed budget moment old new (Ok true)
EndsBy fixed budget moment old new (Err why) = MovesBy fixed budget moment old new (Err why)
