-- A read of the completion queue after progress.
use Rattle.std.proofs.Common.{◌⊎◌, inl, inr, ◌≡◌, ◌+◌, ℕ, Bool, Result, Ok, Err, None, refl, ap, subst, arith}
use Rattle.std.specs.Prelude.{Some, IfOk, IfErr, OnErr, is_err, count_by}
use Rattle.fab_base.specs.declared.entries.Entry.{Entry}
use Rattle.fab_base.specs.declared.entries.Taken.TheVariants.{Success}
use Rattle.fab_base.specs.declared.faults.Fault.{Fault}
use Rattle.fab_base.specs.declared.faults.Fault.TheVariants.{Again, NotSupported, MsgSize, Invalid, NoData, NoKey, Range, NoEntry, Avail, NoMemory as LacksMemory}
use Rattle.fab_base.specs.declared.faults.NoMemory.{NoMemory}
use Rattle.fab_base.specs.declared.operations.Written.{Written}
use Rattle.fab_model.specs.Peers.{unread}
use Rattle.fab_face.specs.declared.events.Moved.{Moved}
use Rattle.fab_face.specs.declared.events.Stop.{Stop}
use Rattle.fab_face.specs.declared.events.Stop.TheVariants.{Idle, Budget, CqFull as StoppedCqFull, LogFull as StoppedLogFull}
use Rattle.fab_face.specs.Held.{Held, Seen, IsOpen}
use Rattle.fab_face.specs.Acts.{has_read, is_take, is_post}
use Rattle.fab_face.specs.Answers.{Progressed, PopsNot, ReadsAs, ReadsOn, StopsAs, IsIdle, IsShort}
use Rattle.fab_face.proofs.Holding.{never_held, none_unread}
use Rattle.fab_ep.specs.Reads.{read_as, fault_as}

module _ {Home : Type 0} where
  -- the endpoint with this held
  abbrev pub holding : Held → Seen Home → Seen Home
  holding h e = record e { held = h }

  same_held : (mid : Seen Home) (h : Held) → h ≡ mid.held → holding h mid ≡ mid
  same_held mid h is = ap (λ (x : Held). holding x mid) is

  refused : (mid : Seen Home) (h : Held) (moved : Result Moved NoMemory) (why : Fault) → PopsNot mid.held.state.cq why → h ≡ mid.held → ReadsAs mid (holding h mid) moved (Err (fault_as why (is_err moved)))
  refused mid h (Ok m) NoEntry no_ is = (same_held mid h is, no_)
  refused mid h (Ok m) Avail no_ is = (same_held mid h is, no_)
  refused mid h (Err lacks) NoEntry no_ is = (same_held mid h is, no_)
  refused mid h (Err lacks) Avail no_ is = (same_held mid h is, no_)
  refused mid h moved (Again busy) no_ is = absurd no_
  refused mid h moved LacksMemory no_ is = absurd no_
  refused mid h moved NoData no_ is = absurd no_
  refused mid h moved Invalid no_ is = absurd no_
  refused mid h moved NoKey no_ is = absurd no_
  refused mid h moved Range no_ is = absurd no_
  refused mid h moved MsgSize no_ is = absurd no_
  refused mid h moved NotSupported no_ is = absurd no_

  pub reads_as : (mid : Seen Home) (h : Held) (moved : Result Moved NoMemory) (popped : Result Entry Fault)
      → IfOk popped (λ entry. (w : Written) × (unread mid.held.state.cq ≡ Some w) × (w.entry ≡ Success entry) × (h ≡ has_read w mid.held)) → IfErr popped (λ why. PopsNot mid.held.state.cq why) → OnErr popped (h ≡ mid.held)
      → ReadsAs mid (holding h mid) moved (read_as popped (is_err moved))
  reads_as mid h moved (Ok entry) (w, first, is, read) err stays = record { written = w; first = first; is = is; read = ap (λ (x : Held). holding x mid) read }
  reads_as mid h moved (Err why) ok err stays = refused mid h moved why err stays

  -- where nothing is to be read after progress, it ended for another reason than want of room
  waits_for : (fixed : Bool) (budget : ℕ) (a mid new : Seen Home) (moved : Result Moved NoMemory) (answer : Result Entry Fault) → IsOpen mid → (p : Progressed fixed budget a mid moved) → ReadsAs mid new moved answer
      → answer ≡ Err NoEntry → (count_by is_take p.acts + count_by is_post p.acts ≡ budget) ⊎ (IsIdle a mid ⊎ IsShort mid)
  waits_for fixed budget a mid new (Err lacks) answer sound p reads is = absurd (subst (λ (x : Result Entry Fault). ReadsAs mid new (Err lacks) x) is reads)
  waits_for fixed budget a mid new (Ok m) answer sound p reads is = by_stop m.stop refl p.counted.3
    where
      none : unread mid.held.state.cq ≡ None
      none = (let as_none = subst (λ (x : Result Entry Fault). ReadsAs mid new (Ok m) x) is reads in as_none.1)

      by_stop : (s : Stop) → m.stop ≡ s → StopsAs a mid s → (count_by is_take p.acts + count_by is_post p.acts ≡ budget) ⊎ (IsIdle a mid ⊎ IsShort mid)
      by_stop Idle is idle = inr (inl idle)
      by_stop Budget is spent = (let all = p.counted.2.0 is in let t = p.counted.0 in let q = p.counted.1 in inl (omega (arith, all, t, q)))
      by_stop StoppedCqFull is back = absurd (never_held a mid back (none_unread mid sound none) sound.cq)
      by_stop StoppedLogFull is short = inr (inr short)

  pub reads_on : (fixed : Bool) (budget : ℕ) (a mid : Seen Home) (h : Held) (moved : Result Moved NoMemory) (popped : Result Entry Fault) (lacked : Bool) → lacked ≡ is_err moved → IsOpen mid → Progressed fixed budget a mid moved
      → IfOk popped (λ entry. (w : Written) × (unread mid.held.state.cq ≡ Some w) × (w.entry ≡ Success entry) × (h ≡ has_read w mid.held)) → IfErr popped (λ why. PopsNot mid.held.state.cq why) → OnErr popped (h ≡ mid.held)
      → ReadsOn fixed budget a (holding h mid) (read_as popped lacked)
  reads_on fixed budget a mid h moved popped lacked is sound progressed ok err stays =
      let popped_as = reads_as mid h moved popped ok err stays in
      rw is (record { mid = mid; moved = moved; progressed = progressed; popped = popped_as; waits = waits_for fixed budget a mid (holding h mid) moved _ sound progressed popped_as })

  pub reads_in : (fixed : Bool) (budget : ℕ) (a mid : Seen Home) (h : Held) (moved : Result Moved NoMemory) (popped : Result Entry Fault) (lacked : Bool) (answer : Result Entry Fault) → lacked ≡ is_err moved → answer ≡ read_as popped lacked → IsOpen mid → Progressed fixed budget a mid moved
      → IfOk popped (λ entry. (w : Written) × (unread mid.held.state.cq ≡ Some w) × (w.entry ≡ Success entry) × (h ≡ has_read w mid.held)) → IfErr popped (λ why. PopsNot mid.held.state.cq why) → OnErr popped (h ≡ mid.held)
      → ReadsOn fixed budget a (holding h mid) answer
  reads_in fixed budget a mid h moved popped lacked answer is said sound progressed ok err stays = rw said (reads_on fixed budget a mid h moved popped lacked is sound progressed ok err stays)
