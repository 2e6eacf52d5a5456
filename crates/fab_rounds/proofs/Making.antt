-- Rounds, one after another: what each keeps of a peer, all keep.
use Rattle.std.proofs.Common.{◌≡◌, ◌<◌, ◌≤◌, ◌+◌, ℕ, zero, suc, Bool, true, false, List, [], ◌∷◌, length, map, sum_by, refl, sym, ap, ◌∙◌, subst, arith}
use Rattle.std.specs.Prelude.{not, ◌&&◌, ◌||◌, slice_index_or}
use Rattle.std.specs.List.{list_all, list_any}
use Rattle.std.proofs.lemmas.List.Sums.{sum_by-cons}
use Rattle.fab_base.proofs.Bools.{not_true, not_false}
use Rattle.fab_model.specs.Peers.{is_finished}
use Rattle.fab_model.specs.Views.{IsPrefixOf}
use Rattle.fab_model.proofs.Views.{prefix_self, prefix_prefix}
use Rattle.fab_face.specs.Acts.{steps_of}
use Rattle.fab_peer.specs.Left.{LeftBy}
use Rattle.fab_peer.specs.Turns.{Told, IsStill, actor_of}
use Rattle.fab_rounds.specs.Rounds.{Each, TurnedFor, Between, Rounded, LackedIn, GoesOn, MadeFor, AtOnePort, size}
use Rattle.fab_rounds.specs.Staying.{RanFor, Risen}
use Rattle.fab_rounds.proofs.Lists.{sums_rise, none_at, all_at}
use Rattle.fab_rounds.proofs.Turning.{turned_more, still_later}

-- ---- peers told from a list

each_told : {X Y : Type 0} (f : X → Y) (R : Y → Y → Type 0) (old new : List X) → length new ≡ length old → Each (λ a b. R (f a) (f b)) old new → Each R (map f old) (map f new)
each_told f R [] new long each k d below = absurd (omega (arith, below))
each_told f R (x ∷ old) [] long each k d below = absurd (omega (arith, long))
each_told f R (x ∷ old) (y ∷ new) long each zero d below = each zero x (omega arith)
each_told f R (x ∷ old) (y ∷ new) long each (suc k) d below = each_told f R old new (omega (arith, long)) (λ j e lt. each (suc j) e (omega (arith, lt))) k d (omega (arith, below))

told_each : {X Y : Type 0} (f : X → Y) (R : Y → Y → Type 0) (old new : List X) → length new ≡ length old → Each R (map f old) (map f new) → Each (λ a b. R (f a) (f b)) old new
told_each f R [] new long each k d below = absurd (omega (arith, below))
told_each f R (x ∷ old) [] long each k d below = absurd (omega (arith, long))
told_each f R (x ∷ old) (y ∷ new) long each zero d below = each zero (f x) (omega arith)
told_each f R (x ∷ old) (y ∷ new) long each (suc k) d below = told_each f R old new (omega (arith, long)) (λ j e lt. each (suc j) e (omega (arith, lt))) k d (omega (arith, below))

all_told : {X Y : Type 0} (f : X → Y) (test : Y → Bool) (xs : List X) → list_all test (map f xs) ≡ list_all (λ x. test (f x)) xs
all_told f test [] = refl
all_told f test (x ∷ xs) = ap (λ b. test (f x) && b) (all_told f test xs)

any_told : {X Y : Type 0} (f : X → Y) (test : Y → Bool) (xs : List X) → list_any test (map f xs) ≡ list_any (λ x. test (f x)) xs
any_told f test [] = refl
any_told f test (x ∷ xs) = ap (λ b. test (f x) || b) (any_told f test xs)

length_told : {X Y : Type 0} (f : X → Y) (xs : List X) → length (map f xs) ≡ length xs
length_told f [] = refl
length_told f (x ∷ xs) = ap suc (length_told f xs)

sum_told : {X Y : Type 0} (f : X → Y) (weight : Y → ℕ) (xs : List X) → sum_by weight (map f xs) ≡ sum_by (λ x. weight (f x)) xs
sum_told f weight [] = refl
sum_told f weight (x ∷ xs) = omega (arith, sum_by-cons weight (f x) (map f xs), sum_by-cons (λ y. weight (f y)) x xs, sum_told f weight xs)

-- ---- one more round

module _ {X Home : Type 0} (f : X → Between Home) where
  goes_on : (peers : List X) → list_any (λ p. (f p).failed) peers ≡ false → list_all (λ p. not (f p).moved) peers ≡ false → list_all (λ p. is_finished (actor_of (f p).peer)) peers ≡ false → GoesOn (map f peers)
  goes_on peers well moving going = record {
    well = any_told f (λ p. p.failed) peers ∙ well;
    moving = all_told f (λ p. not p.moved) peers ∙ moving;
    going = all_told f (λ p. is_finished (actor_of p.peer)) peers ∙ going;
  }

  made_more : (n : ℕ) (old mid new : List X) → MadeFor n (map f old) (map f mid)
      → (0 < n → list_any (λ p. (f p).failed) mid ≡ false) → (0 < n → list_all (λ p. not (f p).moved) mid ≡ false) → (0 < n → list_all (λ p. is_finished (actor_of (f p).peer)) mid ≡ false)
      → length new ≡ length mid → Each (λ a b. Rounded (f a) (f b)) mid new → MadeFor (n + 1) (map f old) (map f new)
  made_more n old mid new before well moving going long each =
      let one : n + 1 ≡ suc n = omega arith in
      rw one (map f mid, before, λ some. goes_on mid (well some) (moving some) (going some), length_told f new ∙ long ∙ sym (length_told f mid), each_told f Rounded mid new long each)

-- ---- rounds after rounds

module _ {Home : Type 0} where
  goes_then : (m n : ℕ) (mid last : List (Between Home)) → (0 < m → GoesOn mid) → MadeFor n mid last → (0 < n → GoesOn last) → 0 < m + n → GoesOn last
  goes_then m zero mid last goes same again some = subst GoesOn same (goes (omega (arith, some)))
  goes_then m (suc n) mid last goes made again some = again (omega arith)

  made_then : (m n : ℕ) (old mid new : List (Between Home)) → MadeFor m old mid → (0 < m → GoesOn mid) → MadeFor n mid new → MadeFor (m + n) old new
  made_then m zero old mid new before goes same =
      let none : m ≡ m + zero = omega arith in
      subst (λ k. MadeFor k old new) none (subst (MadeFor m old) same before)
  made_then m (suc n) old mid new before goes (last, made, again, long, each) =
      let one : suc (m + n) ≡ m + suc n = omega arith in
      subst (λ k. MadeFor k old new) one (last, made_then m n old mid last before goes made, goes_then m n mid last goes made again, long, each)

module _ {X Home : Type 0} (f : X → Between Home) where
  pub made_on : (m n : ℕ) (old mid new : List X) → MadeFor m (map f old) (map f mid)
      → (0 < m → list_any (λ p. (f p).failed) mid ≡ false) → (0 < m → list_all (λ p. not (f p).moved) mid ≡ false) → (0 < m → list_all (λ p. is_finished (actor_of (f p).peer)) mid ≡ false)
      → MadeFor n (map f mid) (map f new) → MadeFor (m + n) (map f old) (map f new)
  made_on m n old mid new before well moving going after = made_then m n (map f old) (map f mid) (map f new) before (λ some. goes_on f mid (well some) (moving some) (going some)) after

  -- no round, and one after none
  pub none_ran : (peers : List X) → RanFor 0 (map f peers) (map f peers)
  none_ran peers = record { made = refl; grew = λ well some. omega arith }

  pub one_ran : (n : ℕ) (old mid new : List X) → n ≡ 0 → RanFor n (map f old) (map f mid) → length new ≡ length mid
      → Each (λ a b. Rounded (f a) (f b)) mid new → Each (λ a b. Risen (f a) (f b)) mid new → RanFor 1 (map f old) (map f new)
  one_ran n old mid new none before long each rises =
      let same : map f old ≡ map f mid = subst (λ k. MadeFor k (map f old) (map f mid)) none before.made in
      record {
        made = made_more f 0 old mid new same (λ some. absurd (omega (arith, some))) (λ some. absurd (omega (arith, some))) (λ some. absurd (omega (arith, some))) long each;
        grew = λ well some.
            let whole = sym (any_told f (λ p. p.failed) new) ∙ well in
            let rise = sums_rise (λ p. size (f p).peer) (λ p. not (f p).moved) mid new long
            (λ k d below. (rises k d below).grown (none_at (λ p. (f p).failed) new k d (omega (arith, below, long)) whole)) (λ k d below e. (rises k d below).risen (not_false _ e)) (sym (all_told f (λ p. not p.moved) new) ∙ some) in
            omega (arith, rise, ap (sum_by (λ p. size p.peer)) same, sum_told f (λ p. size p.peer) mid, sum_told f (λ p. size p.peer) new);
      }

  pub grew_told : (n : ℕ) (old new : List X) → RanFor n (map f old) (map f new) → list_any (λ p. (f p).failed) new ≡ false → list_all (λ p. not (f p).moved) new ≡ false
      → sum_by (λ p. size (f p).peer) old + n ≤ sum_by (λ p. size (f p).peer) new
  grew_told n old new ran well some =
      let more = ran.grew (any_told f (λ p. p.failed) new ∙ well) (all_told f (λ p. not p.moved) new ∙ some) in
      omega (arith, more, sum_told f (λ p. size p.peer) old, sum_told f (λ p. size p.peer) new)

-- ---- what rounds keep

module _ {Home : Type 0} where
  made_long : (n : ℕ) (old new : List (Between Home)) → MadeFor n old new → length new ≡ length old
  made_long zero old new same = ap length (sym same)
  made_long (suc n) old new (mid, before, goes, long, each) = long ∙ made_long n old mid before

  made_keeps : (R : Between Home → Between Home → Type 0) → ((a : Between Home) → R a a) → ((a b c : Between Home) → R a b → Rounded b c → R a c) → (n : ℕ) (old new : List (Between Home)) → MadeFor n old new → Each R old new
  made_keeps R self more zero old new same k d below = subst (λ xs. R (slice_index_or old k d) (slice_index_or xs k d)) same (self (slice_index_or old k d))
  made_keeps R self more (suc n) old new (mid, before, goes, long, each) k d below =
      let within : k < length mid = omega (arith, below, made_long n old mid before) in
      more _ (slice_index_or mid k d) _ (made_keeps R self more n old mid before k d below) (each k d within)

  abbrev Grown : Between Home → Between Home → Type 0
  Grown a b = IsPrefixOf a.peer.schedule b.peer.schedule

  round_grows : (b c : Between Home) → Rounded b c → Grown b c
  round_grows b c round = by_failed c.failed refl
    where
      by_failed : (failed : Bool) → c.failed ≡ failed → Grown b c
      by_failed true is = prefix_self b.peer.schedule c.peer.schedule (sym (round.stays is).1)
      by_failed false is = let t = (round.turned is).1 in (steps_of t.0, sym t.1.schedule)

  pub made_grows : (n : ℕ) (old new : List (Between Home)) → MadeFor n old new → Each Grown old new
  made_grows = made_keeps Grown (λ a. prefix_self a.peer.schedule a.peer.schedule refl) (λ a b c grown round. prefix_prefix a.peer.schedule b.peer.schedule c.peer.schedule grown (round_grows b c round))

  abbrev Stays : Between Home → Between Home → Type 0
  Stays a b = b.failed ≡ false → (a.failed ≡ false) × AtOnePort a.peer b.peer

  stays_more : (a b c : Between Home) → Stays a b → Rounded b c → Stays a c
  stays_more a b c before round = λ well.
      let (was, turn) = round.turned well in
      let (first, port) = before was in
      (first, (turn.1.ported.number ∙ port.0, turn.1.ported.home ∙ port.1))

  pub made_stays : (n : ℕ) (old new : List (Between Home)) → MadeFor n old new → Each Stays old new
  made_stays = made_keeps Stays (λ a well. (well, (refl, refl))) stays_more

  -- ---- turns

  abbrev TurnedSo : ℕ → Between Home → Between Home → Type 0
  TurnedSo n a b = b.failed ≡ false → (a.failed ≡ false) × TurnedFor n a.peer b.peer

  made_turns : (n : ℕ) (old new : List (Between Home)) → MadeFor n old new → Each (TurnedSo n) old new
  made_turns zero old new same k d below = subst (λ xs. TurnedSo zero (slice_index_or old k d) (slice_index_or xs k d)) same (λ well. (well, refl))
  made_turns (suc n) old new (mid, before, goes, long, each) k d below = λ well.
      let within : k < length mid = omega (arith, below, made_long n old mid before) in
      let turn = (each k d within).turned well in
      let first = made_turns n old mid before k d below turn.0 in
      (first.0, turned_more n (slice_index_or old k d).peer (slice_index_or mid k d).peer (slice_index_or new k d).peer (slice_index_or new k d).moved first.1 turn.1)

  all_turns : (n : ℕ) (old new : List (Between Home)) → (0 < n → list_any (λ p. p.failed) new ≡ false) → MadeFor n old new → Each (λ a b. (b.failed ≡ false → a.failed ≡ false) × TurnedFor n a.peer b.peer) old new
  all_turns zero old new well same k d below =
      subst (λ xs. ((slice_index_or xs k d).failed ≡ false → (slice_index_or old k d).failed ≡ false) × TurnedFor zero (slice_index_or old k d).peer (slice_index_or xs k d).peer) same (λ e. e, refl)
  all_turns (suc n) old new well made k d below =
      let turn = made_turns (suc n) old new made k d below (none_at (λ p. p.failed) new k d (omega (arith, below, made_long (suc n) old new made)) (well (omega arith))) in
      (λ _. turn.0, turn.1)

  made_still : (n : ℕ) (old new : List (Between Home)) → 0 < n → MadeFor n old new → Each (λ a b. b.failed ≡ false → b.moved ≡ false → IsStill a.peer b.peer) old new
  made_still zero old new some same k d below = absurd (omega (arith, some))
  made_still (suc n) old new some (mid, before, goes, long, each) k d below = λ well none.
      let within : k < length mid = omega (arith, below, made_long n old mid before) in
      let round = each k d within in
      let first = made_turns n old mid before k d below (round.turned well).0 in
      still_later n (slice_index_or old k d).peer (slice_index_or mid k d).peer (slice_index_or new k d).peer first.1 (round.still well none)

  -- ---- where memory ran out

  -- before the last round it ran out in no turn, unless there is no round before it
  lacked_last : (n : ℕ) (a b c : Between Home) → TurnedSo n a b → (0 < n → b.failed ≡ false) → (n ≡ 0 → b ≡ a) → Rounded b c → LackedIn (suc n) a c
  lacked_last n a b c before well first round = record {
    turned = λ some. (let turn = round.turned some in turned_more n a.peer b.peer c.peer c.moved (before turn.0).1 turn.1);
    left = λ was some. by_first n refl was some;
    spoiled = λ was. by_spoiled n refl was;
  }
    where
      by_first : (m : ℕ) → n ≡ m → a.failed ≡ false → c.failed ≡ true → (k : ℕ) × (k + 1 ≡ suc n) × ((mid : Told Home) × TurnedFor k a.peer mid × LeftBy mid c.peer)
      by_first zero is was some =
          let same = first is in
          let here : b.failed ≡ false = ap (λ (x : Between Home). x.failed) same ∙ was in
          (n, omega arith, (b.peer, (before here).1, round.left here some))
      by_first (suc m) is was some = let here = well (omega (arith, is)) in (n, omega arith, (b.peer, (before here).1, round.left here some))

      by_spoiled : (m : ℕ) → n ≡ m → a.failed ≡ true → (suc n ≡ 1) × (c ≡ a)
      by_spoiled zero is was = let same = first is in (ap suc is, round.spoiled (ap (λ (x : Between Home). x.failed) same ∙ was) ∙ same)
      by_spoiled (suc m) is was = let nay : true ≡ false = sym was ∙ (before (well (omega (arith, is)))).0 in absurd (cc nay)

  made_none : (n : ℕ) (old new : List (Between Home)) → n ≡ 0 → MadeFor n old new → old ≡ new
  made_none zero old new none same = same
  made_none (suc n) old new none made = absurd (omega (arith, none))

  made_lacked : (n : ℕ) (old new : List (Between Home)) → 0 < n → MadeFor n old new → Each (LackedIn n) old new
  made_lacked zero old new some same k d below = absurd (omega (arith, some))
  made_lacked (suc n) old new some (mid, before, goes, long, each) k d below =
      let within : k < length mid = omega (arith, below, made_long n old mid before) in
      lacked_last n (slice_index_or old k d) (slice_index_or mid k d) (slice_index_or new k d) (made_turns n old mid before k d below)
      (λ more. none_at (λ p. p.failed) mid k d within (let g = goes more in g.well)) (λ none. ap (λ xs. slice_index_or xs k d) (sym (made_none n old mid none before))) (each k d within)

-- ---- the same of the peers that are told

module _ {X Home : Type 0} (f : X → Between Home) (n : ℕ) (old new : List X) (long : length new ≡ length old) (made : MadeFor n (map f old) (map f new)) where
  pub schedules_grow : Each (λ a b. IsPrefixOf (f a).peer.schedule (f b).peer.schedule) old new
  schedules_grow = told_each f Grown old new long (made_grows n (map f old) (map f new) made)

  pub ports_stay : Each (λ a b. (f b).failed ≡ false → AtOnePort (f a).peer (f b).peer) old new
  ports_stay = λ k d below well. (told_each f Stays old new long (made_stays n (map f old) (map f new) made) k d below well).1

  pub turns_made : (0 < n → list_any (λ p. (f p).failed) new ≡ false) → Each (λ a b. ((f b).failed ≡ false → (f a).failed ≡ false) × TurnedFor n (f a).peer (f b).peer) old new
  turns_made well = told_each f (λ a b. (b.failed ≡ false → a.failed ≡ false) × TurnedFor n a.peer b.peer) old new long (all_turns n (map f old) (map f new) (λ some. any_told f (λ p. p.failed) new ∙ well some) made)

  pub lacked_made : 0 < n → Each (λ a b. LackedIn n (f a) (f b)) old new
  lacked_made some = told_each f (LackedIn n) old new long (made_lacked n (map f old) (map f new) some made)

  pub still_made : 0 < n → list_any (λ p. (f p).failed) new ≡ false → list_all (λ p. not (f p).moved) new ≡ true → Each (λ a b. IsStill (f a).peer (f b).peer) old new
  still_made some well none k d below =
      let here : k < length new = omega (arith, below, long) in
      told_each f (λ a b. b.failed ≡ false → b.moved ≡ false → IsStill a.peer b.peer) old new long (made_still n (map f old) (map f new) some made) k d below
      (none_at (λ p. (f p).failed) new k d here well) (not_true _ (all_at (λ p. not (f p).moved) new k d here none))
