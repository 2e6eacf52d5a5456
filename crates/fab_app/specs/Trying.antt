-- Calls that are made again while they are refused for now.
--     SendsLate, SendsLateNot              progress of earlier tries, and then the call: Ok, refused
--     ReceivesWithin, ReceivesWithinNot    the same of a receive call, each try with its draws
--     again_of why buf                     what is done with a refusal
use Rattle.std.specs.Prelude.{◌≡◌, ℕ, Bool, false, List, Some, None, Result, Ok, Err, IfErr}
use Rattle.fab_base.specs.declared.faults.Busy.{Busy}
use Rattle.fab_base.specs.declared.faults.Fault.{Fault}
use Rattle.fab_base.specs.declared.faults.Fault.TheVariants.{Again}
use Rattle.fab_base.specs.declared.faults.Refused.{Refused as RefusedWith}
use Rattle.fab_base.specs.declared.items.Kind.TheVariants.{Msg, TagMsg}
use Rattle.fab_model.specs.Calls.{Call, message}
use Rattle.fab_face.specs.Held.{Seen}
use Rattle.fab_face.specs.Answers.{Sends, SendsNot}
use Rattle.fab_app.specs.declared.receiving.Tried.{Tried}
use Rattle.fab_app.specs.declared.receiving.Tried.TheVariants.{Answered, Late}
use Rattle.fab_app.specs.declared.trying.Message.{Message}
use Rattle.fab_app.specs.Cleared.{cleared, is_again}
use Rattle.fab_app.specs.Late.{ReceivesLate, ReceivesLateNot}
use Rattle.fab_app.specs.Progresses.{Progresses}

-- a list was full, which passes
abbrev pub again_of : Fault → List ℕ → Result (List ℕ) Fault
again_of (Again busy) buf = Ok buf
again_of fault buf = Err fault

pub record SendsLate {Home : Type 0} (fixed : Bool) (call : Call) (dest : ℕ) (old new : Seen Home) : Type 0 where
  pub mid : Seen Home
  pub before : Progresses old mid
  pub sends : Sends fixed call dest (cleared mid) new

pub record SendsLateNot {Home : Type 0} (fixed : Bool) (call : Call) (old new : Seen Home) (fault : Fault) : Type 0 where
  pub mid : Seen Home
  pub before : Progresses old mid
  pub refused : SendsNot fixed call (cleared mid) new fault

pub record ReceivesWithin {Home : Type 0} (call : Call) (old new : Seen Home) : Type 0 where
  pub mid : Seen Home
  pub before : Progresses old mid
  pub receives : ReceivesLate call mid new

pub record ReceivesWithinNot {Home : Type 0} (call : Call) (old new : Seen Home) (fault : Fault) : Type 0 where
  pub mid : Seen Home
  pub before : Progresses old mid
  pub refused : ReceivesLateNot call mid new fault

-- ---- by parts

abbrev pub sent_by : Message → List ℕ → Call
sent_by m buf = elim m.tag [
  | None ↦ message Msg (Some m.ctx) m.dest 0 buf m.imm m.flags.level m.flags.completion m.flags.fence
  | Some tag ↦ message TagMsg (Some m.ctx) m.dest tag buf m.imm m.flags.level m.flags.completion m.flags.fence
]

-- one try, by its answer
abbrev pub TriesBusy : Result (Unit {0}) RefusedWith → Tried → Type 0
TriesBusy answer (Answered same) = (same ≡ answer) × IfErr same (λ r. is_again r.why ≡ false)
TriesBusy answer (Late back) = (busy : Busy) × (answer ≡ Err (record { why = Again busy; buf = back }))
