-- What progress does to an endpoint, however often it is made.
--     Progresses old new     frames and draws, and nothing else: no call, no read
--     IsFlushed e            no operation is under way
--     Moves fixed budget old new answer     one progress, and what it tells
use Rattle.std.specs.Prelude.{◌≡◌, ◌≢◌, ◌<◌, ℕ, Bool, ◌&&◌, ◌==◌, List, [], None, Result, Ok, Err, count_by}
use Rattle.fab_base.specs.declared.faults.NoMemory.{NoMemory}
use Rattle.fab_model.specs.State.{State, awaits, deferred_count}
use Rattle.fab_face.specs.declared.events.Moved.{Moved}
use Rattle.fab_face.specs.declared.events.Stop.{Stop}
use Rattle.fab_face.specs.declared.events.Stop.TheVariants.{Idle as StoppedIdle, Budget, CqFull as StoppedCqFull, LogFull}
use Rattle.fab_face.specs.Held.{Seen}
use Rattle.fab_face.specs.Acts.{Act, GoesBy, Ported, is_move}
use Rattle.fab_face.specs.Answers.{AllAre, IsIdle, IsHeldBack, Progressed}
use Rattle.fab_app.specs.declared.moving.Next.{Next}
use Rattle.fab_app.specs.declared.moving.Next.TheVariants.{Idle, More, CqFull}

-- the log is any
pub record Progresses {Home : Type 0} (old new : Seen Home) : Type 0 where
  pub acts : List Act
  pub moves : AllAre is_move acts
  pub goes : GoesBy None old.held acts new.held
  pub ported : Ported old.lanes new.lanes acts
  pub size : new.log_size ≡ old.log_size

-- operations that are transmitted and await the answer of their peer
abbrev pub awaiting_of : State → ℕ
awaiting_of s = count_by (awaits s.tx) s.tx.live

abbrev pub is_flushed : State → Bool
is_flushed s = (deferred_count s.tx == 0) && (awaiting_of s == 0)

abbrev pub next_of : Stop → Next
next_of Budget = More
next_of LogFull = More
next_of StoppedIdle = Idle
next_of StoppedCqFull = CqFull

abbrev pub NextOf : Result Moved NoMemory → Result Next NoMemory → Type 0
NextOf (Ok moved) answer = answer ≡ Ok (next_of moved.stop)
NextOf (Err lacks) answer = answer ≡ Err lacks

abbrev pub MovesAs : {Home : Type 0} → ℕ → Seen Home → Seen Home → List Act → Result Next NoMemory → Type 0
MovesAs budget old new acts (Ok Idle) = IsIdle old new
MovesAs budget old new acts (Ok CqFull) = IsHeldBack old new
MovesAs budget old new acts (Ok More) = 0 < budget → acts ≢ []
MovesAs budget old new acts (Err lacks) = Unit {0}

-- at most `budget` frames, and whether it is worth a call again, which the endpoint's own progress says: nothing is left to move, or something waits for room in the completion
-- queue, or something moved and more may
pub record Moves {Home : Type 0} (fixed : Bool) (budget : ℕ) (old new : Seen Home) (answer : Result Next NoMemory) : Type 0 where
  pub moved : Result Moved NoMemory
  pub progressed : Progressed fixed budget old new moved
  pub says : NextOf moved answer
  pub told : MovesAs budget old new progressed.acts answer
