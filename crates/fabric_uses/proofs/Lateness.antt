-- What a wait by the clock told: where nothing came, the moment has passed.
use Rattle.std.proofs.Common.{◌≡◌, ◌≤◌, ◌+◌, ℕ, Bool, true, false, None, Ok, refl, sym, ap, subst, arith}
use Rattle.fabric.specs.Cleared.{cleared}
use Rattle.fabric.specs.Calls.{Call}
use Rattle.fabric.specs.Clocks.{Told}
use Rattle.fabric.specs.Held.{Seen}
use Rattle.fabric.specs.Polls.{Polls, has_come}
use Rattle.fabric.specs.TryingUntil.{AsksUntilNot, IfRefused}
use Rattle.fabric.specs.Until.{MovesUntil, PollsUntil, Timed, Until, timed}
use Rattle.fabric.specs.Within.{AskMisses, Misses, MovesOnce, Times}
use Rattle.fabric.specs.Words.{Again, Busy, Polled, PolledEntry, PolledError, PolledIdle, PolledMore, TryFault, TryRefused}
use Rattle.fabric_uses.specs.Uses.{IsForNow, first_unread}

module _ {Home : Type 0} where
  pub is_passed : (Step : Seen Home → Seen Home → Type 0) (moment : ℕ) (late : Bool) (old new : Timed Home) → Until Step moment late old new → late ≡ true → moment ≤ new.told.last
  is_passed Step moment false old new turns is = absurd (cc)
  is_passed Step moment true old new (n, mid, turns, last) is = let reads = ap (λ (t : Told). t.last) last.reads in let passed = last.late in omega (arith, reads, passed)

  none_read : (fixed : Bool) (budget : ℕ) (old new : Seen Home) (polled : Polled) → Polls fixed budget old new (Ok polled) → has_come (Ok polled) ≡ false → first_unread new.held.state.cq ≡ None
  none_read fixed budget old new (PolledEntry entry) p none = absurd (cc)
  none_read fixed budget old new (PolledError error) p none = absurd (cc)
  none_read fixed budget old new PolledIdle p none = subst (λ (e : Seen Home). first_unread e.held.state.cq ≡ None) (sym p.told.0.0) (rw p.told.0.1 refl)
  none_read fixed budget old new PolledMore p none = subst (λ (e : Seen Home). first_unread e.held.state.cq ≡ None) (sym p.told.0.0) (rw p.told.0.1 refl)

  pub waited_late : (fixed : Bool) (budget spins moment : ℕ) (old new : Timed Home) (polled : Polled) → PollsUntil fixed budget spins moment old new (Ok polled) → has_come (Ok polled) ≡ false → moment ≤ new.told.last
  waited_late fixed budget spins moment old new polled p none = is_passed (Times (Misses fixed budget) (spins + 1)) moment p.late old (timed new.told p.mid) p.missed (p.all none)

  pub waited_read : (fixed : Bool) (budget spins moment : ℕ) (old new : Timed Home) (polled : Polled) → PollsUntil fixed budget spins moment old new (Ok polled) → has_come (Ok polled) ≡ false → first_unread new.seen.held.state.cq ≡ None
  waited_read fixed budget spins moment old new polled p none = none_read fixed budget (cleared p.polls.mid) new.seen polled p.polls.polls none

  pub moved_late : (fixed : Bool) (budget moment : ℕ) (old new : Timed Home) (done : Bool) → MovesUntil fixed budget moment old new done → done ≡ false → moment ≤ new.told.last
  moved_late fixed budget moment old new done m is = is_passed (MovesOnce fixed budget) moment m.late old (timed new.told m.mid) m.moved (m.all is)

  pub asked_late : (fixed : Bool) (budget moment : ℕ) (call : Call) (old new : Timed Home) (why : TryFault) → IfRefused why (AsksUntilNot fixed budget moment call old new) → IsForNow why → moment ≤ new.told.last
  asked_late fixed budget moment call old new why refused (busy, is) =
      let a : AsksUntilNot fixed budget moment call old new (Again busy) = subst (λ (w : TryFault). IfRefused w (AsksUntilNot fixed budget moment call old new)) is refused in
      is_passed (AskMisses fixed budget call) moment a.late old (timed new.told a.mid) a.missed (a.all refl)
