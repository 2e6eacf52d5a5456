-- Steps in a row, and polls that are counted.
use Rattle.std.proofs.Common.{◌≡◌, ◌≤◌, ℕ, zero, suc, ◌+◌, Bool, true, false, List, Result, Ok, Err, refl, sym, ◌∙◌, subst, arith}
use Rattle.fab_base.specs.declared.faults.Busy.{Busy}
use Rattle.fab_base.specs.declared.faults.Fault.{Fault}
use Rattle.fab_base.specs.declared.faults.Fault.TheVariants.{Again}
use Rattle.fab_face.specs.Answers.{Sends, SendsNot}
use Rattle.fab_app.specs.declared.moving.Next.{Next}
use Rattle.fab_app.specs.declared.receiving.Ask.{Ask}
use Rattle.fab_app.specs.declared.trying.Message.{Message}
use Rattle.fab_app.specs.Late.{asked, ReceivesLate, ReceivesLateNot}
use Rattle.fab_app.specs.Progresses.{Moves}
use Rattle.fab_app.specs.Trying.{sent_by}
use Rattle.fab_base.specs.declared.faults.NoMemory.{NoMemory}
use Rattle.fab_face.specs.Held.{Seen}
use Rattle.fab_app.specs.declared.completions.Polled.{Polled}
use Rattle.fab_app.specs.Cleared.{cleared, is_again}
use Rattle.fab_app.specs.Polls.{Polls, has_come}
use Rattle.fab_app.specs.Within.{Times, Misses, PollsWithin, MovesOnce, SendMisses, SendsWithin, SendsWithinNot, AskMisses, AsksWithin, AsksWithinNot}

pub one_more : {State : Type 0} (Step : State → State → Type 0) (n : ℕ) (a b c : State) → Times Step n a b → Step b c → Times Step (n + 1) a c
one_more Step n a b c steps step = let e : suc n ≡ n + 1 = omega arith in subst (λ (k : ℕ). Times Step k a c) e (b, steps, step)

module _ {Home : Type 0} where
  pub no_steps : (Step : Seen Home → Seen Home → Type 0) (n : ℕ) (a : Seen Home) → n ≡ 0 → Times Step n a a
  no_steps Step n a none = subst (λ (k : ℕ). Times Step k a a) (sym none) refl

  pub then_steps : (Step : Seen Home → Seen Home → Type 0) (m n : ℕ) (a b c : Seen Home) → Times Step m a b → Times Step n b c → Times Step (m + n) a c
  then_steps Step m zero a b c first same =
      let e : m ≡ m + zero = omega arith in
      subst (λ (k : ℕ). Times Step k a c) e (subst (λ (x : Seen Home). Times Step m a x) (sym same) first)
  then_steps Step m (suc n) a b c first (mid, steps, step) =
      let e : suc (m + n) ≡ m + suc n = omega arith in
      subst (λ (k : ℕ). Times Step k a c) e (mid, then_steps Step m n a b mid first steps, step)

  pub missed_by : (fixed : Bool) (budget : ℕ) (a b : Seen Home) (answer : Result Polled NoMemory) → Polls fixed budget (cleared a) b answer → has_come answer ≡ false → Misses fixed budget a b
  missed_by fixed budget a b (Ok told) polls none = record { told = told; polls = polls; none = none }
  missed_by fixed budget a b (Err lacks) polls none = absurd (cc)

  -- a wait that found none: all of its polls did
  pub all_missed : (fixed : Bool) (budget most : ℕ) (a b : Seen Home) (answer : Result Polled NoMemory) → PollsWithin fixed budget most a b answer → has_come answer ≡ false
      → Times (Misses fixed budget) (most + 1) a b
  all_missed fixed budget most a b answer w none =
      one_more (Misses fixed budget) most a w.mid b (subst (λ (k : ℕ). Times (Misses fixed budget) k a w.mid) (w.all none) w.missed) (missed_by fixed budget w.mid b answer w.polls none)

  -- a wait behind polls that found none, where it may take so many in all
  pub within_after : (fixed : Bool) (budget before most all : ℕ) (a b c : Seen Home) (answer : Result Polled NoMemory) → Times (Misses fixed budget) before a b
      → PollsWithin fixed budget most b c answer → before + most ≤ all → (has_come answer ≡ false → before + most ≡ all) → PollsWithin fixed budget all a c answer
  within_after fixed budget before most all a b c answer first w few whole = record {
    made = before + w.made;
    few = let f = w.few in omega (arith, f, few);
    mid = w.mid;
    missed = then_steps (Misses fixed budget) before w.made a b w.mid first w.missed;
    polls = w.polls;
    all = λ none. let e = w.all none in let f = whole none in omega (arith, e, f);
  }

  -- the last poll, behind all that may be made before it
  pub within_last : (fixed : Bool) (budget most : ℕ) (a b c : Seen Home) (answer : Result Polled NoMemory) → Times (Misses fixed budget) most a b → Polls fixed budget (cleared b) c answer
      → PollsWithin fixed budget most a c answer
  within_last fixed budget most a b c answer missed polls = record { made = most; few = omega arith; mid = b; missed = missed; polls = polls; all = λ none. refl }

  -- ---- progress, and calls that are tried again

  pub moved_once : (fixed : Bool) (budget : ℕ) (a b : Seen Home) (told : Result Next NoMemory) → Moves fixed budget (cleared a) b told → MovesOnce fixed budget a b
  moved_once fixed budget a b told moves = record { told = told; moves = moves }

  pub send_missed : (fixed : Bool) (budget : ℕ) (m : Message) (first buf : List ℕ) (a b c : Seen Home) (busy : Busy) (told : Result Next NoMemory) → buf ≡ first
      → SendsNot fixed (sent_by m buf) (cleared a) b (Again busy) → Moves fixed budget (cleared b) c told → SendMisses fixed budget (sent_by m first) a c
  send_missed fixed budget m first buf a b c busy told is refused moves = record {
    mid = b;
    busy = busy;
    refused = subst (λ (x : List ℕ). SendsNot fixed (sent_by m x) (cleared a) b (Again busy)) is refused;
    moves = moved_once fixed budget b c told moves;
  }

  pub sends_within : (fixed : Bool) (budget n most : ℕ) (m : Message) (dest : ℕ) (first buf : List ℕ) (a b c : Seen Home) → n ≤ most → buf ≡ first
      → Times (SendMisses fixed budget (sent_by m first)) n a b → Sends fixed (sent_by m buf) dest (cleared b) c → SendsWithin fixed budget most (sent_by m first) dest a c
  sends_within fixed budget n most m dest first buf a b c few is missed sends =
      record { made = n; few = few; mid = b; missed = missed; sends = subst (λ (x : List ℕ). Sends fixed (sent_by m x) dest (cleared b) c) is sends }

  pub sends_within_not : (fixed : Bool) (budget n most : ℕ) (m : Message) (first buf : List ℕ) (a b c : Seen Home) (why : Fault) → n ≤ most → buf ≡ first
      → Times (SendMisses fixed budget (sent_by m first)) n a b → (is_again why ≡ true → n ≡ most) → SendsNot fixed (sent_by m buf) (cleared b) c why
      → SendsWithinNot fixed budget most (sent_by m first) a c why
  sends_within_not fixed budget n most m first buf a b c why few is missed all refused =
      record { made = n; few = few; mid = b; missed = missed; refused = subst (λ (x : List ℕ). SendsNot fixed (sent_by m x) (cleared b) c why) is refused; all = all }

  pub ask_missed : (fixed : Bool) (budget : ℕ) (ask : Ask) (ctx : ℕ) (first buf : List ℕ) (a b c : Seen Home) (busy : Busy) (told : Result Next NoMemory) → buf ≡ first
      → ReceivesLateNot (asked ask ctx buf) a b (Again busy) → Moves fixed budget (cleared b) c told → AskMisses fixed budget (asked ask ctx first) a c
  ask_missed fixed budget ask ctx first buf a b c busy told is refused moves = record {
    mid = b;
    busy = busy;
    refused = subst (λ (x : List ℕ). ReceivesLateNot (asked ask ctx x) a b (Again busy)) is refused;
    moves = moved_once fixed budget b c told moves;
  }

  pub asks_within : (fixed : Bool) (budget n most : ℕ) (ask : Ask) (ctx : ℕ) (first buf : List ℕ) (a b c : Seen Home) → n ≤ most → buf ≡ first
      → Times (AskMisses fixed budget (asked ask ctx first)) n a b → ReceivesLate (asked ask ctx buf) b c → AsksWithin fixed budget most (asked ask ctx first) a c
  asks_within fixed budget n most ask ctx first buf a b c few is missed receives =
      record { made = n; few = few; mid = b; missed = missed; receives = subst (λ (x : List ℕ). ReceivesLate (asked ask ctx x) b c) is receives }

  pub asks_within_not : (fixed : Bool) (budget n most : ℕ) (ask : Ask) (ctx : ℕ) (first buf : List ℕ) (a b c : Seen Home) (why : Fault) → n ≤ most → buf ≡ first
      → Times (AskMisses fixed budget (asked ask ctx first)) n a b → (is_again why ≡ true → n ≡ most) → ReceivesLateNot (asked ask ctx buf) b c why
      → AsksWithinNot fixed budget most (asked ask ctx first) a c why
  asks_within_not fixed budget n most ask ctx first buf a b c why few is missed all refused =
      record { made = n; few = few; mid = b; missed = missed; refused = subst (λ (x : List ℕ). ReceivesLateNot (asked ask ctx x) b c why) is refused; all = all }

-- a refusal that does not pass is no refusal for now
pub lasting : (n most : ℕ) (why : Fault) → is_again why ≡ false → is_again why ≡ true → n ≡ most
lasting n most why never again = absurd (cc (sym never ∙ again))
