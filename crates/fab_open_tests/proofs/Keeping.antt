-- No call of an endpoint brings a frame.
use Rattle.std.proofs.Common.{◌≡◌, ℕ, List, Option, Result, Ok, Err, refl, sym, ap, subst, ◌∙◌}
use Rattle.fab_base.specs.declared.entries.Entry.{Entry}
use Rattle.fab_base.specs.declared.entries.Taken.{Taken}
use Rattle.fab_base.specs.declared.faults.Fault.{Fault}
use Rattle.fab_base.specs.declared.faults.Fault.TheVariants.{Again, NoMemory as LacksMemory, NoData, Invalid, NoKey, Range, MsgSize, NotSupported, NoEntry, Avail}
use Rattle.fab_base.specs.declared.faults.NoMemory.{NoMemory}
use Rattle.fab_base.specs.declared.frames.Frame.{Frame}
use Rattle.fab_base.specs.declared.frames.FrameHead.{FrameHead}
use Rattle.fab_link.specs.Frames.{last_head}
use Rattle.fab_model.specs.Calls.{Call}
use Rattle.fab_face.specs.declared.events.Moved.{Moved}
use Rattle.fab_face.specs.Acts.{Act, Went}
use Rattle.fab_face.specs.Answers.{Pops, Progressed, ReadsAs, ReadsOn, Receives, ReceivesNot, Sends, SendsNot}
use Rattle.fab_face.specs.Held.{Seen}
use Rattle.fab_open_tests.specs.Came.{Keeps, listed}

pub keeps_again : {Home : Type 0} (a b c : Seen Home) → Keeps a b → Keeps b c → Keeps a c
keeps_again a b c ab bc = (bc.0 ∙ ab.0, λ s. bc.1 s ∙ ab.1 s)

keeps_went : {Home : Type 0} (call : Option Call) (old new : Seen Home) (acts : List Act) → Went call old new acts → Keeps old new
keeps_went call old new acts went = (
  went.ported.peers,
  λ s. ap (λ (after : Option FrameHead). last_head after (listed (new.lanes.in_list s))) (went.ported.in_after s)
      ∙ ap (λ (f : ℕ → Option (List Frame)). last_head (old.lanes.ins s).after (listed (f s))) went.ported.in_list,
)

pub keeps_sent : {Home : Type 0} (fixed : _) (call : Call) (dest : ℕ) (old new : Seen Home) → Sends fixed call dest old new → Keeps old new
keeps_sent fixed call dest old new sent = keeps_went _ old new _ sent.went

pub keeps_unsent : {Home : Type 0} (fixed : _) (call : Call) (old new : Seen Home) (why : Fault) → SendsNot fixed call old new why → Keeps old new
keeps_unsent fixed call old new why not_sent = keeps_went _ old new _ not_sent.went

pub keeps_received : {Home : Type 0} (call : Call) (old new : Seen Home) → Receives call old new → Keeps old new
keeps_received call old new received = keeps_went _ old new _ received.went

pub keeps_refused : {Home : Type 0} (call : Call) (old new : Seen Home) (why : Fault) → ReceivesNot call old new why → Keeps old new
keeps_refused call old new why refused = keeps_went _ old new _ refused.went

pub keeps_progressed : {Home : Type 0} (fixed : _) (budget : ℕ) (old new : Seen Home) (answer : Result Moved NoMemory) → Progressed fixed budget old new answer → Keeps old new
keeps_progressed fixed budget old new answer progressed = keeps_went _ old new _ progressed.went

pub keeps_same : {Home : Type 0} (old new : Seen Home) → new ≡ old → Keeps old new
keeps_same {Home} old new same = subst (λ (x : Seen Home). Keeps old x) (sym same) (refl, λ s. refl)

pub keeps_popped : {Home : Type 0} (entry : Taken) (old new : Seen Home) → Pops entry old new → Keeps old new
keeps_popped {Home} entry old new popped = subst (λ (x : Seen Home). Keeps old x) (sym popped.read) (refl, λ s. refl)

keeps_read : {Home : Type 0} (mid new : Seen Home) (moved : Result Moved NoMemory) (answer : Result Entry Fault) → ReadsAs mid new moved answer → Keeps mid new
keeps_read mid new (Ok moved) (Ok entry) reads = keeps_popped _ mid new reads
keeps_read mid new (Err e) (Ok entry) reads = keeps_popped _ mid new reads
keeps_read mid new (Ok moved) (Err why) reads = keeps_same mid new reads.0
keeps_read mid new (Err e) (Err LacksMemory) reads = keeps_same mid new reads.0
keeps_read mid new (Err e) (Err Avail) reads = keeps_same mid new reads.0
keeps_read mid new (Err e) (Err (Again busy)) reads = absurd reads
keeps_read mid new (Err e) (Err NoData) reads = absurd reads
keeps_read mid new (Err e) (Err Invalid) reads = absurd reads
keeps_read mid new (Err e) (Err NoKey) reads = absurd reads
keeps_read mid new (Err e) (Err Range) reads = absurd reads
keeps_read mid new (Err e) (Err MsgSize) reads = absurd reads
keeps_read mid new (Err e) (Err NotSupported) reads = absurd reads
keeps_read mid new (Err e) (Err NoEntry) reads = absurd reads

pub keeps_reading : {Home : Type 0} (fixed : _) (budget : ℕ) (old new : Seen Home) (answer : Result Entry Fault) → ReadsOn fixed budget old new answer → Keeps old new
keeps_reading fixed budget old new answer reads = keeps_again old reads.mid new (keeps_progressed fixed budget old reads.mid reads.moved reads.progressed) (keeps_read reads.mid new reads.moved answer reads.popped)
