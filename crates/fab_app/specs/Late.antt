-- Receive calls, looks and cancels whose draws the log had no room for in one go.
--     Drew old new                       draws alone were made
--     ReceivesLate, ReceivesLateNot      draws, and then the call: Ok, refused
--     asked, sought                      the machine's call
use Rattle.std.specs.Prelude.{◌≡◌, ℕ, Bool, true, false, List, None, Some, Result, Ok, Err, IfErr}
use Rattle.fab_base.specs.declared.faults.Fault.{Fault}
use Rattle.fab_base.specs.declared.faults.Fault.TheVariants.{Again}
use Rattle.fab_base.specs.declared.faults.Busy.TheVariants.{LogFull}
use Rattle.fab_base.specs.declared.faults.Refused.{Refused as RefusedWith}
use Rattle.fab_model.specs.Calls.{Call, TakeClaimed, DropClaimed, Cancel, CancelFirst, Look}
use Rattle.fab_face.specs.Held.{Seen}
use Rattle.fab_face.specs.Acts.{Act, GoesBy, is_draw}
use Rattle.fab_face.specs.Answers.{AllAre, Receives, ReceivesNot, receive_call}
use Rattle.fab_app.specs.declared.receiving.Ask.{Ask}
use Rattle.fab_app.specs.declared.receiving.Ask.TheVariants.{Plain, Tagged, Multi, Claimed}
use Rattle.fab_app.specs.declared.receiving.Seek.{Seek}
use Rattle.fab_app.specs.declared.receiving.Seek.TheVariants.{Message, DropsClaimed, Cancels, CancelsFirst}
use Rattle.fab_app.specs.declared.receiving.Tried.{Tried}
use Rattle.fab_app.specs.declared.receiving.Tried.TheVariants.{Answered, Late}
use Rattle.fab_app.specs.Cleared.{cleared, is_log_full}

-- multi-receives took unexpected messages, and nothing else happened; the log is any
pub record Drew {Home : Type 0} (old new : Seen Home) : Type 0 where
  pub acts : List Act
  pub draws : AllAre is_draw acts
  pub goes : GoesBy None old.held acts new.held
  pub size : new.log_size ≡ old.log_size
  pub pushed : new.pushed ≡ old.pushed
  pub lanes : new.lanes ≡ old.lanes
  pub next : new.next ≡ old.next

-- draws for which the log had no room in one go, and then the call
pub record ReceivesLate {Home : Type 0} (call : Call) (old new : Seen Home) : Type 0 where
  pub mid : Seen Home
  pub drew : Drew old mid
  pub receives : Receives call (cleared mid) new

pub record ReceivesLateNot {Home : Type 0} (call : Call) (old new : Seen Home) (fault : Fault) : Type 0 where
  pub mid : Seen Home
  pub drew : Drew old mid
  pub refused : ReceivesNot call (cleared mid) new fault

-- ---- by parts

abbrev pub asked : Ask → ℕ → List ℕ → Call
asked (Plain source) ctx buf = receive_call false source 0 0 buf None ctx
asked (Tagged source tag ignore) ctx buf = receive_call true source tag ignore buf None ctx
asked (Multi source least) ctx buf = receive_call false source 0 0 buf (Some least) ctx
asked Claimed ctx buf = TakeClaimed buf ctx

abbrev pub sought : Seek → ℕ → Call
sought (Message how source tag ignore) ctx = Look how source tag ignore ctx
sought DropsClaimed ctx = DropClaimed ctx
sought Cancels ctx = Cancel ctx
sought CancelsFirst ctx = CancelFirst

-- one go at a receive call, by its answer
abbrev pub Tries : Result (Unit {0}) RefusedWith → Tried → Type 0
Tries answer (Answered same) = (same ≡ answer) × IfErr same (λ r. is_log_full r.why ≡ false)
Tries answer (Late back) = (n : ℕ) × (answer ≡ Err (record { why = Again (LogFull n); buf = back }))

abbrev pub is_late : Result (Unit {0}) Fault → Bool
is_late (Err why) = is_log_full why
is_late (Ok done) = false
