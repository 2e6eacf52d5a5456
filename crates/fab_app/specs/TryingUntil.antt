-- Calls that are made again by the clock.
--     SendsUntil, AsksUntil            tries that are refused for now, each with progress and a reading of the clock behind it, and then one more, which is Ok
--     SendsUntilNot, AsksUntilNot      the same where the last is refused, for now only behind a reading that the moment has passed
--     IfRefused why P                  P of the fault of the last try, where it is that and not the clock's
use Rattle.std.specs.Prelude.{◌≡◌, ℕ, Bool, true, false, List, Result, Ok, Err}
use Rattle.fab_base.specs.declared.faults.Fault.{Fault}
use Rattle.fab_base.specs.declared.faults.Refused.{Refused as RefusedWith}
use Rattle.fab_model.specs.Calls.{Call}
use Rattle.fab_face.specs.Held.{Seen}
use Rattle.fab_face.specs.Answers.{Sends, SendsNot}
use Rattle.fab_app.specs.declared.trying_until.NotAccepted.{NotAccepted}
use Rattle.fab_app.specs.declared.trying_until.TryFault.{TryFault}
use Rattle.fab_app.specs.declared.trying_until.TryFault.TheVariants.{Refused, ClockFailed}
use Rattle.fab_app.specs.Cleared.{cleared, is_again, is_log_full}
use Rattle.fab_app.specs.Late.{ReceivesLate, ReceivesLateNot}
use Rattle.fab_app.specs.Progresses.{Progresses}
use Rattle.fab_app.specs.Trying.{ReceivesWithin, ReceivesWithinNot, SendsLate, SendsLateNot}
use Rattle.fab_app.specs.Until.{Timed, timed, Until}
use Rattle.fab_app.specs.Within.{AskMisses, SendMisses}

abbrev pub IfRefused : TryFault → (Fault → Type 0) → Type 0
IfRefused (Refused why) P = P why
IfRefused ClockFailed P = Unit {0}

pub record SendsUntil {Home : Type 0} (fixed : Bool) (budget moment : ℕ) (call : Call) (dest : ℕ) (old new : Timed Home) : Type 0 where
  pub late : Bool
  pub mid : Seen Home
  pub missed : Until (SendMisses fixed budget call) moment late old (timed new.told mid)
  pub sends : Sends fixed call dest (cleared mid) new.seen

pub record SendsUntilNot {Home : Type 0} (fixed : Bool) (budget moment : ℕ) (call : Call) (old new : Timed Home) (why : Fault) : Type 0 where
  pub late : Bool
  pub mid : Seen Home
  pub missed : Until (SendMisses fixed budget call) moment late old (timed new.told mid)
  pub refused : SendsNot fixed call (cleared mid) new.seen why
  pub all : is_again why ≡ true → late ≡ true

pub record AsksUntil {Home : Type 0} (fixed : Bool) (budget moment : ℕ) (call : Call) (old new : Timed Home) : Type 0 where
  pub late : Bool
  pub mid : Seen Home
  pub missed : Until (AskMisses fixed budget call) moment late old (timed new.told mid)
  pub receives : ReceivesLate call mid new.seen

pub record AsksUntilNot {Home : Type 0} (fixed : Bool) (budget moment : ℕ) (call : Call) (old new : Timed Home) (why : Fault) : Type 0 where
  pub late : Bool
  pub mid : Seen Home
  pub missed : Until (AskMisses fixed budget call) moment late old (timed new.told mid)
  pub refused : ReceivesLateNot call mid new.seen why
  pub all : is_again why ≡ true → late ≡ true

-- ---- by parts

-- the same answer, with the fault of a call that is tried again by the clock
abbrev pub TellsAs : Result (Unit {0}) RefusedWith → Result (Unit {0}) NotAccepted → Type 0
TellsAs (Ok done) answer = answer ≡ Ok done
TellsAs (Err refused) answer = answer ≡ Err (record { why = Refused refused.why; buf = refused.buf })

-- what holds of a fault: of that of the last try, or of the clock's
abbrev pub TellsWhy : (Fault → Type 0) → Type 0 → TryFault → Type 0
TellsWhy Not Failed (Refused why) = Not why
TellsWhy Not Failed ClockFailed = Failed

-- what holds where the call is accepted, refused, or the clock failed, and the buffer is back where it is not accepted
abbrev pub Tells : Type 0 → (Fault → Type 0) → Type 0 → List ℕ → Result (Unit {0}) NotAccepted → Type 0
Tells Good Not Failed buf (Ok done) = Good
Tells Good Not Failed buf (Err r) = (r.buf ≡ buf) × TellsWhy Not Failed r.why

abbrev pub SendTells : {Home : Type 0} → Bool → ℕ → ℕ → Call → ℕ → List ℕ → Timed Home → Timed Home → Result (Unit {0}) NotAccepted → Type 0
SendTells fixed budget moment call dest buf old new answer =
    Tells (SendsLate fixed call dest old.seen new.seen × SendsUntil fixed budget moment call dest old new) (λ why. SendsLateNot fixed call old.seen new.seen why × SendsUntilNot fixed budget moment call old new why × (is_log_full why ≡ false))
    (Progresses old.seen new.seen) buf answer

abbrev pub AskTells : {Home : Type 0} → Bool → ℕ → ℕ → Call → List ℕ → Timed Home → Timed Home → Result (Unit {0}) NotAccepted → Type 0
AskTells fixed budget moment call buf old new answer =
    Tells (ReceivesWithin call old.seen new.seen × AsksUntil fixed budget moment call old new) (λ why. ReceivesWithinNot call old.seen new.seen why × AsksUntilNot fixed budget moment call old new why × (is_log_full why ≡ false))
    (Progresses old.seen new.seen) buf answer
