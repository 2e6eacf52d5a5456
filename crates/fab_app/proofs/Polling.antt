-- What a progress tells, and a poll where there is no completion.
use Rattle.std.proofs.Common.{◌≡◌, ◌≢◌, ◌<◌, ℕ, Bool, false, [], ◌++◌, length, append-nil, Result, Ok, Err, refl, sym, ap, ◌∙◌, subst, arith, inl, inr}
use Rattle.std.specs.Prelude.{OnErr, count_by}
use Rattle.fab_base.specs.declared.faults.NoMemory.{NoMemory}
use Rattle.fab_base.proofs.Options.{on_err as whatever}
use Rattle.fab_face.specs.declared.events.Moved.{Moved}
use Rattle.fab_face.specs.declared.events.Stop.{Stop}
use Rattle.fab_face.specs.declared.events.Stop.TheVariants.{Idle as StoppedIdle, Budget, CqFull, LogFull}
use Rattle.fab_face.specs.Held.{Seen, IsOpen}
use Rattle.fab_face.specs.Acts.{is_take, is_post, events}
use Rattle.fab_face.specs.Answers.{IsHeldBack, IsShort, MayLack, Progressed}
use Rattle.fab_face.proofs.Holding.{never_held, none_unread}
use Rattle.fab_app.specs.declared.completions.Polled.{Polled}
use Rattle.fab_app.specs.declared.completions.Polled.TheVariants.{Entry, Error, Idle, More}
use Rattle.fab_app.specs.declared.moving.Next.{Next}
use Rattle.fab_app.specs.Cleared.{cleared}
use Rattle.fab_app.specs.Progresses.{Moves, MovesAs, NextOf, Progresses, next_of}
use Rattle.fab_app.proofs.Chains.{progressed_on, then_more}
use Rattle.fab_app.specs.Polls.{Polls, PollsAs, Waits, HasNone, told_of, has_come, EndsPoll, TakesFirst}

module _ {Home : Type 0} where
  pub moved_some : (fixed : Bool) (budget : ℕ) (old mid : Seen Home) (moved : Moved) → 0 < budget → (p : Progressed fixed budget old mid (Ok moved)) → moved.stop ≡ Budget → p.acts ≢ []
  moved_some fixed budget old mid moved some p stop none =
      let (taken, posted, (spent, back), why) = p.counted in
      let sum = spent stop in
      let t = taken ∙ ap (count_by is_take) none in
      let q = posted ∙ ap (count_by is_post) none in
      omega (arith, sum, t, q, some)

  pub short_some : (fixed : Bool) (budget : ℕ) (old mid : Seen Home) (moved : Moved) → IsOpen old → old.log ≡ [] → (p : Progressed fixed budget old mid (Ok moved)) → IsShort mid → p.acts ≢ []
  short_some fixed budget old mid moved opened none p short empty =
      let four = opened.log in
      let l = ap length (p.went.log ∙ ap (λ acts. old.log ++ events acts) empty ∙ append-nil old.log ∙ none) in
      let s = p.went.size in
      omega (arith, four, l, s, short)

  by_stop : (fixed : Bool) (budget : ℕ) (old mid new : Seen Home) (moved : Moved) → IsOpen old → IsOpen mid → old.log ≡ [] → (p : Progressed fixed budget old mid (Ok moved)) → HasNone mid new
      → (stop : Stop) → moved.stop ≡ stop → PollsAs budget old mid new p.acts (Ok moved) (Ok (told_of stop))
  by_stop fixed budget old mid new moved opened sound none p has StoppedIdle stop = (has, (rw stop at p.counted.3))
  by_stop fixed budget old mid new moved opened sound none p has Budget stop = (has, ap (λ s. Ok (told_of s)) (sym stop), λ some. moved_some fixed budget old mid moved some p stop)
  by_stop fixed budget old mid new moved opened sound none p has CqFull stop =
      let back : IsHeldBack old mid = (rw stop at p.counted.3) in
      absurd (never_held old mid back (none_unread mid sound has.1) sound.cq)
  by_stop fixed budget old mid new moved opened sound none p has LogFull stop = (has, ap (λ s. Ok (told_of s)) (sym stop), λ some. short_some fixed budget old mid moved opened none p (rw stop at p.counted.3))

  pub polls_none : (fixed : Bool) (budget : ℕ) (old mid new : Seen Home) (moved : Result Moved NoMemory) (answer : Result Polled NoMemory) → IsOpen old → IsOpen mid → old.log ≡ []
      → Progressed fixed budget old mid moved → HasNone mid new → EndsPoll moved answer → Polls fixed budget old new answer
  polls_none fixed budget old mid new (Ok moved) answer opened sound none p has ends =
      record { mid = mid; moved = Ok moved; progressed = p; told = rw ends (by_stop fixed budget old mid new moved opened sound none p has moved.stop refl) }
  polls_none fixed budget old mid new (Err lacks) answer opened sound none p has ends =
      record { mid = mid; moved = Err lacks; progressed = p; told = rw ends (has, refl) }

  pub polls_from : (fixed : Bool) (budget : ℕ) (old mid new : Seen Home) (moved : Result Moved NoMemory) (answer : Result Polled NoMemory) → IsOpen old → IsOpen mid → old.log ≡ []
      → Progressed fixed budget old mid moved → TakesFirst moved mid new answer → Polls fixed budget old new answer
  polls_from fixed budget old mid new moved answer opened sound none p (inl took) = record { mid = mid; moved = moved; progressed = p; told = rw took.1 took.2 }
  polls_from fixed budget old mid new moved answer opened sound none p (inr (inl took)) = record { mid = mid; moved = moved; progressed = p; told = rw took.1 took.2 }
  polls_from fixed budget old mid new moved answer opened sound none p (inr (inr has)) = polls_none fixed budget old mid new moved answer opened sound none p has.0 has.1

  by_next : (fixed : Bool) (budget : ℕ) (old new : Seen Home) (moved : Moved) → IsOpen old → old.log ≡ [] → (p : Progressed fixed budget old new (Ok moved)) → (stop : Stop) → moved.stop ≡ stop → MovesAs budget old new p.acts (Ok (next_of stop))
  by_next fixed budget old new moved opened none p StoppedIdle stop = (rw stop at p.counted.3)
  by_next fixed budget old new moved opened none p Budget stop = λ some. moved_some fixed budget old new moved some p stop
  by_next fixed budget old new moved opened none p CqFull stop = (rw stop at p.counted.3)
  by_next fixed budget old new moved opened none p LogFull stop = λ some. short_some fixed budget old new moved opened none p (rw stop at p.counted.3)

  pub moves_from : (fixed : Bool) (budget : ℕ) (old new : Seen Home) (moved : Result Moved NoMemory) (answer : Result Next NoMemory) → IsOpen old → old.log ≡ [] → Progressed fixed budget old new moved → NextOf moved answer → Moves fixed budget old new answer
  moves_from fixed budget old new (Ok moved) answer opened none p next =
      record { moved = Ok moved; progressed = p; says = next; told = rw next (by_next fixed budget old new moved opened none p moved.stop refl) }
  moves_from fixed budget old new (Err lacks) answer opened none p next = record { moved = Err lacks; progressed = p; says = next; told = rw next tt }

  -- want of memory is told where the endpoint's own progress had it
  lacked : (fixed : Bool) (budget : ℕ) (old new : Seen Home) (moved : Result Moved NoMemory) (why : NoMemory) → Progressed fixed budget old new moved → NextOf moved (Err why) → MayLack fixed new
  lacked fixed budget old new (Ok moved) why p says = absurd (cc)
  lacked fixed budget old new (Err lacks) why p says = p.lacks lacks refl

  pub moves_lacked : (fixed : Bool) (budget : ℕ) (old new : Seen Home) (why : NoMemory) → Moves fixed budget old new (Err why) → MayLack fixed new
  moves_lacked fixed budget old new why m = lacked fixed budget old new m.moved why m.progressed m.says

  pub moves_lack : {T E : Type 0} (r : Result T E) (fixed : Bool) (budget : ℕ) (old new : Seen Home) (why : NoMemory) → Moves fixed budget old new (Err why) → OnErr r (MayLack fixed new)
  moves_lack r fixed budget old new why m = whatever r (MayLack fixed new) (moves_lacked fixed budget old new why m)

  -- a poll that found none is progress
  pub polls_on : (fixed : Bool) (budget : ℕ) (a b c : Seen Home) (answer : Result Polled NoMemory) → Progresses a b → Polls fixed budget (cleared b) c answer → has_come answer ≡ false → Progresses a c
  polls_on fixed budget a b c (Ok (Entry entry)) p q none = absurd (cc)
  polls_on fixed budget a b c (Ok (Error entry)) p q none = absurd (cc)
  polls_on fixed budget a b c (Err lacks) p q none = absurd (cc)
  polls_on fixed budget a b c (Ok Idle) p q none = subst (λ (x : Seen Home). Progresses a x) (sym q.told.0.0) (progressed_on fixed a b (cleared b) q.mid budget q.moved p refl q.progressed)
  polls_on fixed budget a b c (Ok More) p q none = subst (λ (x : Seen Home). Progresses a x) (sym q.told.0.0) (progressed_on fixed a b (cleared b) q.mid budget q.moved p refl q.progressed)

  -- a wait after progress, and one that found none
  pub waits_after : (fixed : Bool) (budget : ℕ) (a b c : Seen Home) (answer : Result Polled NoMemory) → Progresses a b → Waits fixed budget b c answer → Waits fixed budget a c answer
  waits_after fixed budget a b c answer p w = record { mid = w.mid; before = then_more a b w.mid p w.before; polls = w.polls }

  pub waits_on : (fixed : Bool) (budget : ℕ) (a b c : Seen Home) (answer : Result Polled NoMemory) → Progresses a b → Waits fixed budget b c answer → has_come answer ≡ false → Progresses a c
  waits_on fixed budget a b c answer p w none = polls_on fixed budget a w.mid c answer (then_more a b w.mid p w.before) w.polls none

  -- a wait that lacked memory took no completion
  pub waits_lack : (fixed : Bool) (budget : ℕ) (a b : Seen Home) (lacks : NoMemory) → Waits fixed budget a b (Err lacks) → Progresses a b × MayLack fixed b
  waits_lack fixed budget a b lacks w =
      let q = w.polls in
      let on = progressed_on fixed a w.mid (cleared w.mid) q.mid budget q.moved w.before refl q.progressed in
      (subst (λ (x : Seen Home). Progresses a x) (sym q.told.0.0) on, subst (λ (x : Seen Home). MayLack fixed x) (sym q.told.0.0) (q.progressed.lacks lacks q.told.1))
