-- A transmit call after progress, whose buffer is the one that came.
use Rattle.std.proofs.Common.{◌≡◌, ℕ, Bool, List, subst}
use Rattle.fab_base.specs.declared.faults.Fault.{Fault}
use Rattle.fab_face.specs.Held.{Seen}
use Rattle.fab_face.specs.Answers.{Sends, SendsNot}
use Rattle.fab_app.specs.declared.trying.Message.{Message}
use Rattle.fab_app.specs.Cleared.{cleared}
use Rattle.fab_app.specs.Progresses.{Progresses}
use Rattle.fab_app.specs.Trying.{sent_by, SendsLate, SendsLateNot}

module _ {Home : Type 0} where
  pub sends_late : (fixed : Bool) (m : Message) (dest : ℕ) (first buf : List ℕ) (a e c : Seen Home) → buf ≡ first → Progresses a e → Sends fixed (sent_by m buf) dest (cleared e) c → SendsLate fixed (sent_by m first) dest a c
  sends_late fixed m dest first buf a e c is p s = record { mid = e; before = p; sends = subst (λ (x : List ℕ). Sends fixed (sent_by m x) dest (cleared e) c) is s }

  pub sends_late_not : (fixed : Bool) (m : Message) (first buf : List ℕ) (a e c : Seen Home) (why : Fault) → buf ≡ first → Progresses a e → SendsNot fixed (sent_by m buf) (cleared e) c why → SendsLateNot fixed (sent_by m first) a c why
  sends_late_not fixed m first buf a e c why is p s = record { mid = e; before = p; refused = subst (λ (x : List ℕ). SendsNot fixed (sent_by m x) (cleared e) c why) is s }
