-- Lines that are appended one after another, and how many there are.
use Rattle.std.proofs.Common.{Bool, List, [], ap, ap₂, append-nil, append_assoc, arith, cond, false, filter, get_or, length, length-append, map, refl, suc, sym, take, true, zero, ℕ, ◌*◌, ◌++◌, ◌+◌, ◌<◌, ◌∙◌, ◌∷◌, ◌≡◌, ◌≤◌, if◌then◌else◌}
use Rattle.std.proofs.lemmas.List.Elements.{filter-append}
use Rattle.std.proofs.lemmas.List.Sums.{sum_by-append}
use Rattle.std.proofs.lemmas.List.{length-map, length-take-le, map-append, take_more}
use Rattle.std.specs.Prelude.{sum_by}
use Rattle.fab_base.specs.declared.script.LineOp.{LineOp}
use Rattle.fab_model.specs.Calls.{upto}
use Rattle.fab_fold.specs.declared.coll.Coll.{Coll}
use Rattle.fab_workloads.specs.declared.round.Round.{Round}
use Rattle.fab_workloads.specs.Plan.{lines_with, plan_ops, receive_of, receivers, round_ops, rounds_ops, send_to, senders, wait_of}
use Rattle.fab_fold.specs.Shares.{needs}
use Rattle.fab_workloads.specs.Rounds.{share_of}

-- ---- of one rank more

module _ {Y : Type 0} (f : ℕ → Y) (keep : ℕ → Bool) (n : ℕ) (front so_far : List Y) (so : so_far ≡ front ++ map f (filter keep (upto n))) where
  whole : map f (filter keep (upto (n + 1))) ≡ map f (filter keep (upto n)) ++ map f (cond (keep n) (n ∷ []) [])
  whole = ap (λ k. map f (filter keep (upto k))) (let e : n + 1 ≡ suc n = omega arith in e) ∙ ap (map f) (filter-append keep (upto n) (n ∷ [])) ∙ map-append f (filter keep (upto n)) (filter keep (n ∷ []))

  pub one_kept : (new : List Y) (y : Y) → keep n ≡ true → new ≡ so_far ++ y ∷ [] → y ≡ f n → new ≡ front ++ map f (filter keep (upto (n + 1)))
  one_kept new y e is same = is ∙ ap₂ (λ (xs : List Y) (x : Y). xs ++ x ∷ []) so same ∙ append_assoc front (map f (filter keep (upto n))) (f n ∷ [])
      ∙ ap (λ (xs : List Y). front ++ xs) (sym (whole ∙ ap (λ b. map f (filter keep (upto n)) ++ map f (cond b (n ∷ []) [])) e))

  pub none_kept : (new : List Y) → keep n ≡ false → new ≡ so_far → new ≡ front ++ map f (filter keep (upto (n + 1)))
  none_kept new e is = is ∙ so ∙ ap (λ (xs : List Y). front ++ xs) (sym (whole ∙ ap (λ b. map f (filter keep (upto n)) ++ map f (cond b (n ∷ []) [])) e ∙ append-nil (map f (filter keep (upto n)))))

-- ---- of one round more

module _ (peers r : ℕ) where
  pub ops_append : (i : ℕ) (xs ys : List Round) → rounds_ops peers i r (xs ++ ys) ≡ rounds_ops peers i r xs ++ rounds_ops peers (i + length xs) r ys
  ops_append i [] ys = ap (λ j. rounds_ops peers j r ys) (let e : i ≡ i + 0 = omega arith in e)
  ops_append i (x ∷ xs) ys =
      ap (λ (ls : List LineOp). round_ops peers i r x ++ ls) (ops_append (i + 1) xs ys ∙ ap (λ j. rounds_ops peers (i + 1) r xs ++ rounds_ops peers j r ys) (let e : i + 1 + length xs ≡ i + length (x ∷ xs) = omega arith in e))
      ∙ sym (append_assoc (round_ops peers i r x) (rounds_ops peers (i + 1) r xs) (rounds_ops peers (i + length (x ∷ xs)) r ys))

  pub one_round : (rounds : List Round) (k : ℕ) (d : Round) → k < length rounds
      → rounds_ops peers 1 r (take (k + 1) rounds) ≡ rounds_ops peers 1 r (take k rounds) ++ round_ops peers (k + 1) r (get_or rounds k d)
  one_round rounds k d lt =
      ap (rounds_ops peers 1 r) (take_more rounds k d lt) ∙ ops_append 1 (take k rounds) (get_or rounds k d ∷ [])
      ∙ ap₂ (λ j (ls : List LineOp). rounds_ops peers 1 r (take k rounds) ++ ls) (let e : k ≡ k = refl in e)
      (append-nil (round_ops peers (1 + length (take k rounds)) r (get_or rounds k d))
      ∙ ap (λ j. round_ops peers j r (get_or rounds k d)) (omega (arith, length-take-le k rounds (omega (arith, lt)))))

-- ---- how many lines there are

pub filter_short : (keep : ℕ → Bool) (n : ℕ) → length (filter keep (upto n)) ≤ n
filter_short keep zero = omega arith
filter_short keep (suc n) = omega (arith, ap length (filter-append keep (upto n) (n ∷ [])), length-append (filter keep (upto n)) (filter keep (n ∷ [])), filter_short keep n, one_short (keep n))
  where
    one_short : (b : Bool) → length {A = ℕ} (cond b (n ∷ []) []) ≤ 1
    one_short true = omega arith
    one_short false = omega arith

filter_one : (keep : ℕ → Bool) (n : ℕ) → length (filter keep (upto (suc n))) ≡ length (filter keep (upto n)) + (if keep n then 1 else 0)
filter_one keep n =
    ap length (filter-append keep (upto n) (n ∷ [])) ∙ length-append (filter keep (upto n)) (filter keep (n ∷ [])) ∙ ap (λ k. length (filter keep (upto n)) + k) (one (keep n))
  where
    one : (b : Bool) → length {A = ℕ} (cond b (n ∷ []) []) ≡ (if b then 1 else 0)
    one true = refl
    one false = refl

-- how many lines of rank r have to do with ranks below n
abbrev pub lines_below : Coll → ℕ → ℕ → ℕ
lines_below coll r zero = 0
lines_below coll r (suc n) = lines_below coll r n + lines_with coll r n

pub below_more : (coll : Coll) (r n lines more : ℕ) → lines ≡ lines_below coll r n → more ≡ lines_with coll r n → lines + more ≡ lines_below coll r (n + 1)
below_more coll r n lines more so_far here = ap₂ (λ a b. a + b) so_far here ∙ ap (lines_below coll r) (let e : suc n ≡ n + 1 = omega arith in e)

twice : (b : Bool) → (if b then 1 else 0) + (if b then 1 else 0) ≡ (if b then 2 else 0)
twice true = refl
twice false = refl

below_is : (coll : Coll) (r n : ℕ) → lines_below coll r n ≡ length (receivers n coll r) + (length (senders n coll r) + length (senders n coll r))
below_is coll r zero = refl
below_is coll r (suc n) = omega (
  arith,
  below_is coll r n,
  filter_one (λ t. needs coll t r) n,
  filter_one (λ s. needs coll r s) n,
  twice (needs coll r n),
)

pub lines_are : (peers r : ℕ) (coll : Coll) (i : ℕ) (round : Round) → round.coll ≡ coll → length (round_ops peers i r round) ≡ lines_below coll r peers
lines_are peers r coll i round is = omega (
  arith,
  length-append (map (send_to i (share_of round r)) (receivers peers round.coll r)) (map (receive_of i round) (senders peers round.coll r) ++ map (wait_of i) (senders peers round.coll r)),
  length-append (map (receive_of i round) (senders peers round.coll r)) (map (wait_of i) (senders peers round.coll r)),
  length-map (receivers peers round.coll r) (send_to i (share_of round r)),
  length-map (senders peers round.coll r) (receive_of i round),
  length-map (senders peers round.coll r) (wait_of i),
  ap (λ c. lines_below c r peers) is,
  below_is round.coll r peers,
)

module _ (peers : ℕ) (most : peers ≤ 32) where
  pub round_few : (i r : ℕ) (round : Round) → length (round_ops peers i r round) ≤ 96
  round_few i r round = omega (
    arith,
    length-append (map (send_to i (share_of round r)) (receivers peers round.coll r)) (map (receive_of i round) (senders peers round.coll r) ++ map (wait_of i) (senders peers round.coll r)),
    length-append (map (receive_of i round) (senders peers round.coll r)) (map (wait_of i) (senders peers round.coll r)),
    length-map (receivers peers round.coll r) (send_to i (share_of round r)),
    length-map (senders peers round.coll r) (receive_of i round),
    length-map (senders peers round.coll r) (wait_of i),
    filter_short (λ t. needs round.coll t r) peers,
    filter_short (λ s. needs round.coll r s) peers,
    most,
  )

  ops_few : (i r : ℕ) (rounds : List Round) → length (rounds_ops peers i r rounds) ≤ 96 * length rounds
  ops_few i r [] = omega arith
  ops_few i r (x ∷ xs) = omega (arith, length-append (round_ops peers i r x) (rounds_ops peers (i + 1) r xs), round_few i r x, ops_few (i + 1) r xs)

  all_few : (rounds : List Round) (n : ℕ) → length rounds ≤ 100 → sum_by length (map (λ r. rounds_ops peers 1 r rounds) (upto n)) ≤ 9_600 * n
  all_few rounds zero few = omega arith
  all_few rounds (suc n) few =
      let parts = ap (sum_by length) (map-append (λ r. rounds_ops peers 1 r rounds) (upto n) (n ∷ [])) ∙ sum_by-append length (map (λ r. rounds_ops peers 1 r rounds) (upto n)) (rounds_ops peers 1 n rounds ∷ []) in
      omega (arith, parts, all_few rounds n few, ops_few 1 n rounds, few)

  pub plan_few : (rounds : List Round) → length rounds ≤ 100 → sum_by length (plan_ops peers rounds) ≤ 1_000_000_000
  plan_few rounds few = omega (arith, all_few rounds peers few, most)
