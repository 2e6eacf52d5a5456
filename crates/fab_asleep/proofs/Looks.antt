-- Looks of a wait that may sleep: a poll or progress, and a reading of the clock.
use Rattle.std.specs.Prelude.{IfOk, IfSome, IfNone, Option, Some, None}
use Rattle.std.proofs.Common.{◌≡◌, ◌<◌, ◌≤◌, ◌+◌, ℕ, zero, suc, Bool, true, false, Result, Ok, Err, refl, sym, subst, arith}
use Rattle.fab_base.specs.declared.faults.NoMemory.{NoMemory}
use Rattle.fab_face.specs.Held.{Seen}
use Rattle.fab_face.specs.Answers.{MayLack}
use Rattle.fab_app.specs.declared.completions.Polled.{Polled}
use Rattle.fab_app.specs.declared.moving.Next.{Next}
use Rattle.fab_app.specs.declared.until.WaitFault.{WaitFault}
use Rattle.fab_app.specs.declared.until.WaitFault.TheVariants.{ClockFailed, NoMemory as LacksMemory}
use Rattle.fab_app.specs.Cleared.{cleared}
use Rattle.fab_app.specs.Clocks.{Told, read_on}
use Rattle.fab_app.specs.Polls.{Polls, Waits, has_come}
use Rattle.fab_app.specs.Progresses.{Moves, Progresses}
use Rattle.fab_app.specs.Within.{Misses, MovesOnce, PollsWithin, Times}
use Rattle.fab_app.specs.Until.{Early, HasCome, Late, MovesBy, MovesUntil, PollsUntil, Spins, SpinsUntil, Timed, timed, ToldAs, Until}
use Rattle.fab_app.proofs.Chains.{moved_on, none, then_more}
use Rattle.fab_app.proofs.Counting.{missed_by, moved_once, within_last}
use Rattle.fab_app.proofs.Polling.{moves_lacked, polls_on, waits_after}
use Rattle.fab_app.proofs.Timing.{came_until, late_until, moved_by, moves_late, no_turns, spins_by}
use Rattle.fab_asleep.specs.Resting.{EndsBy}

-- what holds of an option that is there, and of one that is not
pub at_some : {P : Type 0} (left : Option ℕ) (n : ℕ) → left ≡ Some n → IfSome left (λ _. P) → P
at_some (Some m) n is holds = holds
at_some None n is holds = absurd (cc)

pub at_none : {P : Type 0} (left : Option ℕ) → left ≡ None → IfNone left P → P
at_none (Some m) is holds = absurd (cc)
at_none None is holds = holds

-- such steps in a row, and more of them
then_times : {State : Type 0} (Step : State → State → Type 0) (m n : ℕ) (a b c : State) → Times Step m a b → Times Step n b c → Times Step (m + n) a c
then_times {State} Step m zero a b c first same =
    let e : m ≡ m + zero = omega arith in
    subst (λ (k : ℕ). Times Step k a c) e (subst (λ (x : State). Times Step m a x) (sym same) first)
then_times Step m (suc n) a b c first (mid, steps, step) =
    let e : suc (m + n) ≡ m + suc n = omega arith in
    subst (λ (k : ℕ). Times Step k a c) e (mid, then_times Step m n a b mid first steps, step)

module _ {Home : Type 0} where
  -- ---- one look

  -- a poll is a turn without spins
  pub spun_once : (fixed : Bool) (budget : ℕ) (a b : Seen Home) (answer : Result Polled NoMemory) (told : Result Polled WaitFault) → Polls fixed budget (cleared a) b answer → ToldAs answer told → Spins fixed budget 0 a b told
  spun_once fixed budget a b answer told polls is = spins_by fixed budget 0 a b answer told (record { mid = a; before = none a; polls = polls }) (within_last fixed budget 0 a a b answer refl polls) is

  pub moved_once_by : (fixed : Bool) (budget : ℕ) (a b : Seen Home) (answer : Result Polled NoMemory) → Polls fixed budget (cleared a) b answer → has_come answer ≡ false → Progresses a b
  moved_once_by fixed budget a b answer polls missed = polls_on fixed budget a a b answer (none a) polls missed

  pub early_look : (fixed : Bool) (budget moment : ℕ) (t u : Told) (a b : Seen Home) → Misses fixed budget a b → ((reading : ℕ) × (u ≡ read_on t reading) × (reading < moment)) → Early (Times (Misses fixed budget) 1) moment (timed t a) (timed u b)
  early_look fixed budget moment t u a b missed (reading, reads, early) = record { reading = reading; step = (a, refl, missed); reads = reads; early = early }

  pub came_look : (fixed : Bool) (budget moment : ℕ) (t : Told) (a b : Seen Home) (told : Result Polled WaitFault) → Spins fixed budget 0 a b told × HasCome told → SpinsUntil fixed budget 0 moment (timed t a) (timed t b) told
  came_look fixed budget moment t a b told (spun, come) = came_until fixed budget 0 moment t t a a b told (none a) (no_turns (Times (Misses fixed budget) 1) moment (timed t a)) spun come

  pub late_look : (fixed : Bool) (budget moment : ℕ) (t u : Told) (a b c : Seen Home) (answer : Result Polled NoMemory) (told : Result Polled WaitFault) → Misses fixed budget a b → Progresses a b
      → ((reading : ℕ) × (u ≡ read_on t reading) × (moment ≤ reading)) → Polls fixed budget (cleared b) c answer → ToldAs answer told → SpinsUntil fixed budget 0 moment (timed t a) (timed u c) told
  late_look fixed budget moment t u a b c answer told missed moved (reading, reads, late) polls is =
      late_until fixed budget 0 moment t u a b c told moved (0, timed t a, refl, record { reading = reading; step = (a, refl, missed); reads = reads; late = late }) (spun_once fixed budget b c answer told polls is)

  pub failed_look : (fixed : Bool) (budget moment : ℕ) (a b : Timed Home) → Progresses a.seen b.seen → SpinsUntil fixed budget 0 moment a b (Err ClockFailed)
  failed_look fixed budget moment a b moved = (moved, λ wrong. absurd (cc))

  -- ---- looks in a row

  until_after : (Step : Seen Home → Seen Home → Type 0) (moment : ℕ) (late : Bool) (a b c : Timed Home) → Until Step moment false a b → Until Step moment late b c → Until Step moment late a c
  until_after Step moment false a b c (m, first) (n, more) = (m + n, then_times (Early Step moment) m n a b c first more)
  until_after Step moment true a b c (m, first) (n, mid, more, last) = (m + n, mid, then_times (Early Step moment) m n a b mid first more, last)

  -- looks that found nothing, and then what ends the wait
  pub after_looks : (fixed : Bool) (budget moment : ℕ) (t u v : Told) (a b c : Seen Home) (told : Result Polled WaitFault) → Progresses a b → Until (Times (Misses fixed budget) 1) moment false (timed t a) (timed u b)
      → SpinsUntil fixed budget 0 moment (timed u b) (timed v c) told → SpinsUntil fixed budget 0 moment (timed t a) (timed v c) told
  after_looks fixed budget moment t u v a b c (Ok polled) moved turns (waits, p) = (
    waits_after fixed budget a b c (Ok polled) moved waits,
    record {
      late = p.late;
      mid = p.mid;
      missed = until_after (Times (Misses fixed budget) 1) moment p.late (timed t a) (timed u b) (timed v p.mid) turns p.missed;
      polls = p.polls;
      all = p.all;
    },
  )
  after_looks fixed budget moment t u v a b c (Err why) moved turns (more, lacks) = (then_more a b c moved more, lacks)

  -- ---- progress

  pub lacked_look : (fixed : Bool) (budget moment : ℕ) (t u : Told) (a b c : Seen Home) (why : NoMemory) → Progresses a b → Moves fixed budget (cleared b) c (Err why) → EndsBy fixed budget moment (timed t a) (timed u c) (Err LacksMemory)
  lacked_look fixed budget moment t u a b c why moved moves = (moved_on fixed a b c budget (Err why) moved moves, λ _. moves_lacked fixed budget (cleared b) c why moves)

  pub failed_moves : (fixed : Bool) (budget moment : ℕ) (a b : Timed Home) → Progresses a.seen b.seen → EndsBy fixed budget moment a b (Err ClockFailed)
  failed_moves fixed budget moment a b moved = (moved, λ wrong. absurd (cc))

  pub early_moves : (fixed : Bool) (budget moment : ℕ) (t u : Told) (a b : Seen Home) (told : Result Next NoMemory) → Moves fixed budget (cleared a) b told → ((reading : ℕ) × (u ≡ read_on t reading) × (reading < moment))
      → MovesBy fixed budget moment (timed t a) (timed u b) (Ok false)
  early_moves fixed budget moment t u a b told moves (reading, reads, early) =
      (moved_on fixed a a b budget told (none a) moves, record { reading = reading; step = moved_once fixed budget a b told moves; reads = reads; early = early })

  pub late_moves : (fixed : Bool) (budget moment : ℕ) (t u : Told) (a b c : Seen Home) (told more : Result Next NoMemory) (done : Bool) → Moves fixed budget (cleared a) b told
      → ((reading : ℕ) × (u ≡ read_on t reading) × (moment ≤ reading)) → Moves fixed budget (cleared b) c more → EndsBy fixed budget moment (timed t a) (timed u c) (Ok done)
  late_moves fixed budget moment t u a b c told more done moves (reading, reads, late) again = (
    moved_on fixed a b c budget more (moved_on fixed a a b budget told (none a) moves) again,
    (b, record { reading = reading; step = moved_once fixed budget a b told moves; reads = reads; late = late }, moved_once fixed budget b c more again),
  )

  -- what a look that ends the wait leaves
  pub ends_moved : (fixed : Bool) (budget moment : ℕ) (a b : Timed Home) (told : Result Bool WaitFault) → EndsBy fixed budget moment a b told → Progresses a.seen b.seen
  ends_moved fixed budget moment a b (Ok done) by = moved_by fixed budget moment a b (Ok true) by
  ends_moved fixed budget moment a b (Err why) by = moved_by fixed budget moment a b (Err why) by

  pub ends_lacks : (fixed : Bool) (budget moment : ℕ) (a b : Timed Home) (told : Result Bool WaitFault) → EndsBy fixed budget moment a b told → told ≡ Err LacksMemory → MayLack fixed b.seen
  ends_lacks fixed budget moment a b (Ok done) by wrong = absurd (cc)
  ends_lacks fixed budget moment a b (Err why) by is = by.1 (cc (is))

  pub ends_until : (fixed : Bool) (budget moment : ℕ) (t u v : Told) (a b c : Seen Home) (told : Result Bool WaitFault) → Until (MovesOnce fixed budget) moment false (timed t a) (timed u b)
      → EndsBy fixed budget moment (timed u b) (timed v c) told → IfOk told (λ done. MovesUntil fixed budget moment (timed t a) (timed v c) done)
  ends_until fixed budget moment t u v a b c (Ok done) turns by = moves_late fixed budget moment t u v a b c true done turns by refl
  ends_until fixed budget moment t u v a b c (Err why) turns by = tt
