-- Calls that are made again by the clock.
use Rattle.std.proofs.Common.{◌≡◌, ℕ, Bool, true, false, List, Result, Ok, Err, IfErr, OnOk, refl, ◌∙◌, subst}
use Rattle.fab_base.specs.declared.faults.Fault.{Fault}
use Rattle.fab_base.specs.declared.faults.Refused.{Refused as RefusedWith}
use Rattle.fab_model.specs.Calls.{Call}
use Rattle.fab_face.specs.Held.{Seen}
use Rattle.fab_face.specs.Answers.{Sends, SendsNot}
use Rattle.fab_app.specs.declared.receiving.Ask.{Ask}
use Rattle.fab_app.specs.declared.trying.Message.{Message}
use Rattle.fab_app.specs.declared.trying_until.NotAccepted.{NotAccepted}
use Rattle.fab_app.specs.declared.trying_until.TryFault.{TryFault}
use Rattle.fab_app.specs.declared.trying_until.TryFault.TheVariants.{Refused, ClockFailed}
use Rattle.fab_app.specs.Cleared.{cleared, is_again, is_log_full}
use Rattle.fab_app.specs.Clocks.{Told}
use Rattle.fab_app.specs.Late.{asked, ReceivesLate, ReceivesLateNot}
use Rattle.fab_app.specs.Progresses.{Progresses}
use Rattle.fab_app.specs.Trying.{ReceivesWithin, ReceivesWithinNot, SendsLate, SendsLateNot, sent_by}
use Rattle.fab_app.specs.TryingUntil.{AskTells, AsksUntil, AsksUntilNot, IfRefused, SendTells, SendsUntil, SendsUntilNot, Tells, TellsAs, TellsWhy}
use Rattle.fab_app.specs.Until.{Timed, timed, Until}
use Rattle.fab_app.specs.Within.{AskMisses, SendMisses}
use Rattle.fab_app.proofs.Drawing.{receives_within, receives_within_not}
use Rattle.fab_app.proofs.Retries.{sends_late, sends_late_not}

-- ---- an answer, clause by clause

why_not : (Not Q : Fault → Type 0) (Failed : Type 0) (why : TryFault) → TellsWhy Not Failed why → ((fault : Fault) → Not fault → Q fault) → IfRefused why Q
why_not Not Q Failed (Refused fault) by says = says fault by
why_not Not Q Failed ClockFailed by says = tt

why_failed : (Not : Fault → Type 0) (Failed : Type 0) (why : TryFault) → TellsWhy Not Failed why → why ≡ ClockFailed → Failed
why_failed Not Failed (Refused fault) by is = absurd (cc)
why_failed Not Failed ClockFailed by is = by

why_clock : (Not : Fault → Type 0) (Failed : Type 0) (why : TryFault) → why ≡ ClockFailed → Failed → TellsWhy Not Failed why
why_clock Not Failed (Refused fault) is failed = absurd (cc)
why_clock Not Failed ClockFailed is failed = failed

module _ (Good : Type 0) (Not : Fault → Type 0) (Failed : Type 0) (buf : List ℕ) where
  tells_ok : (Q : Type 0) (answer : Result (Unit {0}) NotAccepted) → Tells Good Not Failed buf answer → (Good → Q) → OnOk answer Q
  tells_ok Q (Ok done) by says = says by
  tells_ok Q (Err r) by says = tt

  tells_kept : (answer : Result (Unit {0}) NotAccepted) → Tells Good Not Failed buf answer → IfErr answer (λ r. r.buf ≡ buf)
  tells_kept (Ok done) by = tt
  tells_kept (Err r) by = by.0

  tells_not : (Q : Fault → Type 0) (answer : Result (Unit {0}) NotAccepted) → Tells Good Not Failed buf answer → ((fault : Fault) → Not fault → Q fault) → IfErr answer (λ r. IfRefused r.why Q)
  tells_not Q (Ok done) by says = tt
  tells_not Q (Err r) by says = why_not Not Q Failed r.why by.1 says

  tells_failed : (answer : Result (Unit {0}) NotAccepted) → Tells Good Not Failed buf answer → IfErr answer (λ r. r.why ≡ ClockFailed → Failed)
  tells_failed (Ok done) by = tt
  tells_failed (Err r) by = why_failed Not Failed r.why by.1

  -- the clock failed
  tells_clock : (r : NotAccepted) → r.buf ≡ buf → r.why ≡ ClockFailed → Failed → Tells Good Not Failed buf (Err r)
  tells_clock r kept is failed = (kept, why_clock Not Failed r.why is failed)

module _ {Home : Type 0} (fixed : Bool) (moment : ℕ) (call : Call) (dest : ℕ) (buf : List ℕ) (old new : Timed Home) where
  abbrev Sent : Type 0
  Sent = SendsLate fixed call dest old.seen new.seen × SendsUntil fixed 64 moment call dest old new

  abbrev NotSent : Fault → Type 0
  NotSent why = SendsLateNot fixed call old.seen new.seen why × SendsUntilNot fixed 64 moment call old new why × (is_log_full why ≡ false)

  abbrev Unsent : Type 0
  Unsent = Progresses old.seen new.seen

  pub send_clock : (r : NotAccepted) → r.buf ≡ buf → r.why ≡ ClockFailed → Progresses old.seen new.seen → SendTells fixed 64 moment call dest buf old new (Err r)
  send_clock r kept is moved = tells_clock Sent NotSent Unsent buf r kept is moved

  module _ (answer : Result (Unit {0}) NotAccepted) (tells : SendTells fixed 64 moment call dest buf old new answer) where
    pub send_ok : OnOk answer (SendsLate fixed call dest old.seen new.seen)
    send_ok = tells_ok Sent NotSent Unsent buf (SendsLate fixed call dest old.seen new.seen) answer tells (λ good. good.0)

    pub send_kept : IfErr answer (λ r. r.buf ≡ buf)
    send_kept = tells_kept Sent NotSent Unsent buf answer tells

    pub send_err : IfErr answer (λ r. IfRefused r.why (SendsLateNot fixed call old.seen new.seen))
    send_err = tells_not Sent NotSent Unsent buf (SendsLateNot fixed call old.seen new.seen) answer tells (λ fault why. why.0)

    pub send_never : IfErr answer (λ r. IfRefused r.why (λ why. is_log_full why ≡ false))
    send_never = tells_not Sent NotSent Unsent buf (λ fault. is_log_full fault ≡ false) answer tells (λ fault why. why.2)

    pub send_failed : IfErr answer (λ r. r.why ≡ ClockFailed → Progresses old.seen new.seen)
    send_failed = tells_failed Sent NotSent Unsent buf answer tells

    pub send_until : OnOk answer (SendsUntil fixed 64 moment call dest old new)
    send_until = tells_ok Sent NotSent Unsent buf (SendsUntil fixed 64 moment call dest old new) answer tells (λ good. good.1)

    pub send_gives_up : IfErr answer (λ r. IfRefused r.why (SendsUntilNot fixed 64 moment call old new))
    send_gives_up = tells_not Sent NotSent Unsent buf (SendsUntilNot fixed 64 moment call old new) answer tells (λ fault why. why.1)

module _ {Home : Type 0} (fixed : Bool) (moment : ℕ) (call : Call) (buf : List ℕ) (old new : Timed Home) where
  abbrev Posted : Type 0
  Posted = ReceivesWithin call old.seen new.seen × AsksUntil fixed 64 moment call old new

  abbrev NotPosted : Fault → Type 0
  NotPosted why = ReceivesWithinNot call old.seen new.seen why × AsksUntilNot fixed 64 moment call old new why × (is_log_full why ≡ false)

  abbrev Unposted : Type 0
  Unposted = Progresses old.seen new.seen

  pub ask_clock : (r : NotAccepted) → r.buf ≡ buf → r.why ≡ ClockFailed → Progresses old.seen new.seen → AskTells fixed 64 moment call buf old new (Err r)
  ask_clock r kept is moved = tells_clock Posted NotPosted Unposted buf r kept is moved

  module _ (answer : Result (Unit {0}) NotAccepted) (tells : AskTells fixed 64 moment call buf old new answer) where
    pub ask_ok : OnOk answer (ReceivesWithin call old.seen new.seen)
    ask_ok = tells_ok Posted NotPosted Unposted buf (ReceivesWithin call old.seen new.seen) answer tells (λ good. good.0)

    pub ask_kept : IfErr answer (λ r. r.buf ≡ buf)
    ask_kept = tells_kept Posted NotPosted Unposted buf answer tells

    pub ask_err : IfErr answer (λ r. IfRefused r.why (ReceivesWithinNot call old.seen new.seen))
    ask_err = tells_not Posted NotPosted Unposted buf (ReceivesWithinNot call old.seen new.seen) answer tells (λ fault why. why.0)

    pub ask_never : IfErr answer (λ r. IfRefused r.why (λ why. is_log_full why ≡ false))
    ask_never = tells_not Posted NotPosted Unposted buf (λ fault. is_log_full fault ≡ false) answer tells (λ fault why. why.2)

    pub ask_failed : IfErr answer (λ r. r.why ≡ ClockFailed → Progresses old.seen new.seen)
    ask_failed = tells_failed Posted NotPosted Unposted buf answer tells

    pub ask_until : OnOk answer (AsksUntil fixed 64 moment call old new)
    ask_until = tells_ok Posted NotPosted Unposted buf (AsksUntil fixed 64 moment call old new) answer tells (λ good. good.1)

    pub ask_gives_up : IfErr answer (λ r. IfRefused r.why (AsksUntilNot fixed 64 moment call old new))
    ask_gives_up = tells_not Posted NotPosted Unposted buf (AsksUntilNot fixed 64 moment call old new) answer tells (λ fault why. why.1)

-- a refusal that does not pass needs no late reading
pub lasts : (answer : Result (Unit {0}) RefusedWith) (late : Bool) → IfErr answer (λ r. is_again r.why ≡ false) → IfErr answer (λ r. is_again r.why ≡ true → late ≡ true)
lasts (Ok done) late not = tt
lasts (Err r) late not = λ again. absurd (cc (not, again))

-- behind a late reading each may pass
pub is_late : (answer : Result (Unit {0}) RefusedWith) → IfErr answer (λ r. is_again r.why ≡ true → true ≡ true)
is_late (Ok done) = tt
is_late (Err r) = λ again. refl

-- ---- the answer of the last try

module _ {Home : Type 0} where
  pub send_told : (fixed : Bool) (moment : ℕ) (m : Message) (first buf : List ℕ) (t u : Told) (a b c : Seen Home) (late : Bool) (answer : Result (Unit {0}) RefusedWith) (told : Result (Unit {0}) NotAccepted) → buf ≡ first → Progresses a b
      → Until (SendMisses fixed 64 (sent_by m first)) moment late (timed t a) (timed u b) → OnOk answer (Sends fixed (sent_by m buf) m.dest (cleared b) c) → IfErr answer (λ r. (r.buf ≡ buf) × SendsNot fixed (sent_by m buf) (cleared b) c r.why)
      → IfErr answer (λ r. is_log_full r.why ≡ false) → IfErr answer (λ r. is_again r.why ≡ true → late ≡ true) → TellsAs answer told → SendTells fixed 64 moment (sent_by m first) m.dest first (timed t a) (timed u c) told
  send_told fixed moment m first buf t u a b c late (Ok done) told same moved turns sends not never all is = rw is (
    sends_late fixed m m.dest first buf a b c same moved sends,
    record { late = late; mid = b; missed = turns; sends = subst (λ (x : List ℕ). Sends fixed (sent_by m x) m.dest (cleared b) c) same sends },
  )
  send_told fixed moment m first buf t u a b c late (Err r) told same moved turns sends not never all is = rw is (
    not.0 ∙ same,
    (
      sends_late_not fixed m first buf a b c r.why same moved not.1,
      record { late = late; mid = b; missed = turns; refused = subst (λ (x : List ℕ). SendsNot fixed (sent_by m x) (cleared b) c r.why) same not.1; all = all },
      never,
    ),
  )

  pub ask_told : (fixed : Bool) (moment : ℕ) (ask : Ask) (ctx : ℕ) (first buf : List ℕ) (t u : Told) (a b c : Seen Home) (late : Bool) (answer : Result (Unit {0}) RefusedWith) (told : Result (Unit {0}) NotAccepted) → buf ≡ first → Progresses a b
      → Until (AskMisses fixed 64 (asked ask ctx first)) moment late (timed t a) (timed u b) → OnOk answer (ReceivesLate (asked ask ctx buf) b c) → IfErr answer (λ r. (r.buf ≡ buf) × ReceivesLateNot (asked ask ctx buf) b c r.why)
      → IfErr answer (λ r. is_log_full r.why ≡ false) → IfErr answer (λ r. is_again r.why ≡ true → late ≡ true) → TellsAs answer told → AskTells fixed 64 moment (asked ask ctx first) first (timed t a) (timed u c) told
  ask_told fixed moment ask ctx first buf t u a b c late (Ok done) told same moved turns receives not never all is = rw is (
    receives_within ask ctx first buf a b c same moved receives,
    record { late = late; mid = b; missed = turns; receives = subst (λ (x : List ℕ). ReceivesLate (asked ask ctx x) b c) same receives },
  )
  ask_told fixed moment ask ctx first buf t u a b c late (Err r) told same moved turns receives not never all is = rw is (
    not.0 ∙ same,
    (
      receives_within_not ask ctx first buf a b c r.why same moved not.1,
      record { late = late; mid = b; missed = turns; refused = subst (λ (x : List ℕ). ReceivesLateNot (asked ask ctx x) b c r.why) same not.1; all = all },
      never,
    ),
  )
