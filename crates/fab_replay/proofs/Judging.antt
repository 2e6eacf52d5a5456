-- The parts of a verdict.
use Rattle.std.proofs.Common.{◌≡◌, ◌≢◌, ℕ, suc, ◌+◌, ◌-◌, ◌<◌, ◌≤◌, ◌⊎◌, inl, inr, Bool, true, false, cond, List, [], ◌∷◌, length, drop, map, min, get_or, slice_get, Some, None, Result, Ok, Err, IfOk, refl, sym, ap, ap₂, subst, ◌∙◌, arith, eqb, add-one, length-drop}
use Rattle.std.specs.Prelude.{bytes_eq}
use Rattle.std.specs.Option.{option_map}
use Rattle.std.proofs.lemmas.Option.{slice_get-map, slice_get_read, get_or_from_slice_get}
use Rattle.std.proofs.Math.ListN.{drop_of_length-le}
use Rattle.std.proofs.Math.Seq.{drop-cons}
use Rattle.std.proofs.lemmas.Bool.{eqb-true, ne_eqb}
use Rattle.std.proofs.lemmas.Slice.Eq.{bytes_eq-Decides}
use Rattle.fab_base.specs.declared.peers.Step.{Step}
use Rattle.fab_base.specs.declared.script.Bound.{Bound}
use Rattle.fab_model.specs.Orders.{Moment, replay}
use Rattle.fab_model.specs.Peers.{Actor, fabric}
use Rattle.fab_model.specs.Views.{rule}
use Rattle.fab_model.specs.Replay.{replayed, start}
use Rattle.fab_model.specs.Report.{report_of}
use Rattle.fab_replay.specs.declared.verdicts.Verdict.{Verdict}
use Rattle.fab_replay.specs.declared.verdicts.Verdict.TheVariants.{Left}
use Rattle.fab_report.specs.Reading.{schedule_told}
use Rattle.fab_replay.specs.declared.turns.Peer.{Peer}
use Rattle.fab_replay.specs.Seen.{actors_of, steps_of, left_of, moment_of}
use Rattle.fab_replay.specs.Verdict.{common, first_left, number_left, compared, judged, verdict}

-- ---- where two texts differ

common_by : (x y : ℕ) (xs ys : List ℕ) (b : Bool) → eqb x y ≡ b → cond b (1 + common xs ys) 0 ≡ suc (length xs) → (common xs ys ≡ length xs → xs ≡ ys) → x ∷ xs ≡ y ∷ ys
common_by x y xs ys true same e ih = ap₂ (λ (z : ℕ) (zs : List ℕ). z ∷ zs) (eqb-true x y same) (ih (omega (arith, e)))
common_by x y xs ys false same e ih = absurd (omega (arith, e))

common_all : (xs ys : List ℕ) → length xs ≡ length ys → common xs ys ≡ length xs → xs ≡ ys
common_all [] [] same e = refl
common_all [] (y ∷ ys) same e = absurd (omega arith)
common_all (x ∷ xs) [] same e = absurd (omega arith)
common_all (x ∷ xs) (y ∷ ys) same e = common_by x y xs ys (eqb x y) refl e (common_all xs ys (omega arith))

common_end : (xs ys : List ℕ) → (xs ≡ []) ⊎ (ys ≡ []) → common xs ys ≡ 0
common_end [] ys none = refl
common_end (x ∷ xs) [] none = refl
common_end (x ∷ xs) (y ∷ ys) (inl none) = cc
common_end (x ∷ xs) (y ∷ ys) (inr none) = cc

one_empty : (a b : List ℕ) (at : ℕ) → (length a ≤ at) ⊎ (length b ≤ at) → (drop at a ≡ []) ⊎ (drop at b ≡ [])
one_empty a b at (inl short) = inl (drop_of_length-le a short)
one_empty a b at (inr short) = inr (drop_of_length-le b short)

other_by : (a b : List ℕ) (c : Bool) → bytes_eq a b ≡ c → (a ≡ b → ⊥) → c ≡ false
other_by a b true is differ = absurd (differ ((bytes_eq-Decides a b).0 is))
other_by a b false is differ = refl

other : (a b : List ℕ) → (a ≡ b → ⊥) → bytes_eq a b ≡ false
other a b differ = other_by a b (bytes_eq a b) refl differ

pub differ_at : (a b : List ℕ) (at : ℕ) → at < length a → at < length b → get_or a at 0 ≢ get_or b at 0 → common a b ≡ at + common (drop at a) (drop at b) → (bytes_eq a b ≡ false) × (at ≡ common a b)
differ_at a b at first second differ so_far =
    let never : eqb (get_or a at 0) (get_or b at 0) ≡ false = ne_eqb _ _ differ in
    let left : drop at a ≡ get_or a at 0 ∷ drop (suc at) a = drop-cons a at 0 first in
    let right : drop at b ≡ get_or b at 0 ∷ drop (suc at) b = drop-cons b at 0 second in
    let step : common (drop at a) (drop at b) ≡ 0 = rw (left, right, never) refl in
    (other a b (λ e. differ (ap (λ xs. get_or xs at 0) e)), omega (arith, so_far, step))

pub all_alike : (a b : List ℕ) (at : ℕ) → length a ≤ at → length a ≡ length b → at ≤ length a → common a b ≡ at + common (drop at a) (drop at b) → bytes_eq a b ≡ true
all_alike a b at past same within so_far =
    let end = common_end (drop at a) (drop at b) (one_empty a b at (inl past)) in
    (bytes_eq-Decides a b).1 (common_all a b same (omega (arith, so_far, end)))

pub shorter : (a b : List ℕ) (at : ℕ) → (length a ≤ at) ⊎ (length b ≤ at) → length a ≢ length b → common a b ≡ at + common (drop at a) (drop at b) → (bytes_eq a b ≡ false) × (at ≡ common a b)
shorter a b at past differ so_far =
    let end = common_end (drop at a) (drop at b) (one_empty a b at past) in
    (other a b (λ e. differ (ap length e)), omega (arith, so_far, end))

pub shortest : (m n i : ℕ) → min m n ≤ i → (m ≤ i) ⊎ (n ≤ i)
shortest m n i past = grind arith

-- ---- the steps left

left_by : (p : ℕ) (steps : List Step) (rest : List (List Step)) → 0 < length steps → first_left p (steps ∷ rest) ≡ Some p
left_by p [] rest some = absurd (omega arith)
left_by p (step ∷ steps) rest some = refl

none_by : (p : ℕ) (steps : List Step) (rest : List (List Step)) → length steps ≡ 0 → first_left p (steps ∷ rest) ≡ first_left (p + 1) rest
none_by p [] rest none = refl
none_by p (step ∷ steps) rest none = absurd (omega arith)

pub drop_peer : (peers : List Peer) (k : ℕ) (d : Peer) → k < length peers → drop k peers ≡ get_or peers k d ∷ drop (k + 1) peers
drop_peer peers k d within = rw add-one (drop-cons peers k d within)

pub has_left : (peers : List Peer) (k : ℕ) (x : Peer) → k < length peers → x ≡ get_or peers k x → x.taken < length x.steps → first_left k (map left_of (drop k peers)) ≡ Some k
has_left peers k x within is more =
    ap (λ rest. first_left k (map left_of rest)) (drop_peer peers k x within ∙ ap (λ y. y ∷ drop (k + 1) peers) (sym is))
    ∙ left_by k (left_of x) (map left_of (drop (k + 1) peers)) (omega (arith, length-drop x.taken x.steps))

pub none_left : (peers : List Peer) (k : ℕ) (x : Peer) → k < length peers → x ≡ get_or peers k x → length x.steps ≤ x.taken → first_left k (map left_of (drop k peers)) ≡ first_left (k + 1) (map left_of (drop (k + 1) peers))
none_left peers k x within is over =
    ap (λ rest. first_left k (map left_of rest)) (drop_peer peers k x within ∙ ap (λ y. y ∷ drop (k + 1) peers) (sym is))
    ∙ none_by k (left_of x) (map left_of (drop (k + 1) peers)) (omega (arith, length-drop x.taken x.steps))

same_peer : (peers : List Peer) (k : ℕ) (x y : Peer) → k < length peers → x ≡ get_or peers k x → y ≡ get_or peers k y → x ≡ y
same_peer peers k x y within is also =
    let first = slice_get_read peers (length peers) k x refl within is in
    let second = slice_get_read peers (length peers) k y refl within also in
    cc

-- the same, of the peer read twice
pub has_left_read : (peers : List Peer) (k n m : ℕ) (x y : Peer) → k < length peers → x ≡ get_or peers k x → y ≡ get_or peers k y → n ≡ x.taken → m ≡ length y.steps → n < m → first_left k (map left_of (drop k peers)) ≡ Some k
has_left_read peers k n m x y within is also taken many more =
    let same = ap (λ (p : Peer). length p.steps) (same_peer peers k x y within is also) in
    has_left peers k x within is (omega (arith, taken, many, more, same))

-- ---- the whole verdict

some_left : (k p : ℕ) (lists : List (List Step)) → first_left k lists ≡ Some p → (k ≤ p) × (0 < length (get_or lists (p - k) []))
some_left k p [] e = absurd (cc)
some_left k p ([] ∷ lists) e =
    let ih = some_left (k + 1) p lists e in
    let one : p - k ≡ suc (p - (k + 1)) = omega (arith, ih.0) in
    (omega (arith, ih.0), rw one ih.1)
some_left k p ((step ∷ steps) ∷ lists) e =
    let same : k ≡ p = cc in
    let none : p - k ≡ 0 = omega arith in
    (omega arith, rw none (omega arith))

module _ (bound : Bound) (text : List ℕ) (schedule : List (List Step)) (end : Moment Actor Step) (peers : List Peer) (there : moment_of bound peers ≡ end) (steps : steps_of peers ≡ schedule) where
  abbrev version : ℕ
  version = bound.script.version

  is_judged : judged version (steps_of peers) (moment_of bound peers) text ≡ judged version schedule end text
  is_judged = ap₂ (λ (s : List (List Step)) (m : Moment Actor Step). judged version s m text) steps there

  judged_ok : (v : Verdict) → first_left 0 (map left_of peers) ≡ None → v ≡ compared (actors_of bound peers) (report_of version (actors_of bound peers) (steps_of peers)) text → v ≡ judged version schedule end text
  judged_ok v none is = is ∙ sym (rw (none, judged) refl) ∙ is_judged

  pub judged_none : {E : Type 0} (r : Result Verdict E) → first_left 0 (map left_of peers) ≡ None → IfOk r (λ v. v ≡ compared (actors_of bound peers) (report_of version (actors_of bound peers) (steps_of peers)) text) → IfOk r (λ v. v ≡ judged version schedule end text)
  judged_none (Ok v) none is = judged_ok v none is
  judged_none (Err e) none is = tt

  number_is : (p : ℕ) (peer : Peer) → first_left 0 (map left_of peers) ≡ Some p → slice_get peers p ≡ Some peer → number_left (steps_of peers) (map left_of peers) p ≡ peer.taken + 1
  number_is p peer some here =
      let same : p - 0 ≡ p = omega arith in
      let more = subst (λ n. 0 < length (get_or (map left_of peers) n [])) same ((some_left 0 p (map left_of peers) some).1) in
      let left : get_or (map left_of peers) p [] ≡ left_of peer = get_or_from_slice_get (map left_of peers) p (left_of peer) [] (slice_get-map left_of peers p ∙ ap (option_map left_of) here) in
      let all : get_or (steps_of peers) p [] ≡ peer.steps = get_or_from_slice_get (steps_of peers) p peer.steps [] (slice_get-map (λ (q : Peer). q.steps) peers p ∙ ap (option_map (λ (q : Peer). q.steps)) here) in
      let some_more : 0 < length (left_of peer) = subst (λ l. 0 < length l) left more in
      rw (left, all) (omega (arith, some_more, length-drop peer.taken peer.steps))

  pub judged_left : (p n : ℕ) (peer : Peer) → first_left 0 (map left_of peers) ≡ Some p → slice_get peers p ≡ Some peer → n ≡ peer.taken + 1 → Left p n ≡ judged version schedule end text
  judged_left p n peer some here is = ap (Left p) (is ∙ sym (number_is p peer some here)) ∙ sym (rw (some, judged) refl) ∙ is_judged

  -- the peer read by its place
  pub judged_left_read : (p q n : ℕ) (peer : Peer) → first_left 0 (map left_of peers) ≡ Some q → p ≡ q → q < length peers → peer ≡ get_or peers q peer → n ≡ peer.taken + 1 → Left p n ≡ judged version schedule end text
  judged_left_read p q n peer some same within is one = ap (λ k. Left k n) same ∙ judged_left q n peer some (slice_get_read peers (length peers) q peer refl within is) one

-- what is told is judged from the opening on
whole_ok : (bound : Bound) (text : List ℕ) (schedule : List (List Step)) (v : Verdict) → schedule_told bound.script.conf.peers text ≡ Some schedule → v ≡ judged bound.script.version schedule (replay (rule fabric) (start bound schedule)) text → v ≡ verdict bound text
unfolding replayed
whole_ok bound text schedule v told is = is ∙ sym (rw (told, verdict) refl)

pub whole : {E : Type 0} (bound : Bound) (text : List ℕ) (schedule : List (List Step)) (peers : List Peer) (r : Result Verdict E) → schedule_told bound.script.conf.peers text ≡ Some schedule → moment_of bound peers ≡ start bound schedule → steps_of peers ≡ schedule
    → IfOk r (λ v. v ≡ judged bound.script.version (steps_of peers) (replay (rule fabric) (moment_of bound peers)) text) → IfOk r (λ v. v ≡ verdict bound text)
whole bound text schedule peers (Ok v) told begins steps is =
    whole_ok bound text schedule v told (is ∙ ap₂ (λ (s : List (List Step)) (m : Moment Actor Step). judged bound.script.version s (replay (rule fabric) m) text) steps begins)
whole bound text schedule peers (Err e) told begins steps is = tt
