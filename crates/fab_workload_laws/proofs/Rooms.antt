-- Contexts that are each used once, and receives that are posted and not yet waited for.
--     after conf awaited ops      the contexts that are awaited after these lines
use Rattle.std.proofs.Common.{Bool, List, [], ap, ap₂, arith, false, inl, inr, length, not, refl, subst, suc, true, zero, ℕ, ◌&&◌, ◌++◌, ◌+◌, ◌<◌, ◌||◌, ◌∙◌, ◌∷◌, ◌≡◌, ◌≤◌, ◌⊎◌}
use Rattle.std.proofs.lemmas.Bool.{and_from, and_parts, cases_lt}
use Rattle.std.proofs.lemmas.List.Folds.{list_any-append}
use Rattle.std.specs.List.{list_any}
use Rattle.std.specs.Prelude.{if◌then◌else◌, nat_le, ◌==◌}
use Rattle.fab_base.specs.declared.script.Conf.{Conf}
use Rattle.fab_base.specs.declared.script.LineOp.{LineOp}
use Rattle.fab_model.specs.Matching.{remove_first}
use Rattle.fab_answer.specs.Settled.{are_distinct, awaited_after, is_accepted}
use Rattle.fab_answer.proofs.Lists.{Each, always, differ_is, not_true, same_number}
use Rattle.fab_workloads.specs.Lines.{joined, receive, wait}
use Rattle.fab_workloads.specs.Script.{conf_of}
use Rattle.fab_workload_laws.proofs.Joined.{joined_each}
use Rattle.fab_workload_laws.proofs.Ops.{room_of}
use Rattle.fab_workload_laws.proofs.Settings.{receive_accepted}

-- ---- contexts

none_same : (P : ℕ → Type 0) (x : ℕ) (ys : List ℕ) → P x → Each (λ y. P y → ⊥) ys → list_any (λ y. x == y) ys ≡ false
none_same P x [] here apart = refl
none_same P x (y ∷ ys) here apart = ap₂ (λ a b. a || b) (differ_is x y (λ e. apart.0 (subst P e here))) (none_same P x ys here apart.1)

-- two lists of contexts that a property tells apart
pub distinct_apart : (P : ℕ → Type 0) (xs ys : List ℕ) → Each P xs → Each (λ y. P y → ⊥) ys → are_distinct xs ≡ true → are_distinct ys ≡ true
    → are_distinct (xs ++ ys) ≡ true
distinct_apart P [] ys here apart dx dy = dy
distinct_apart P (x ∷ xs) ys here apart dx dy =
    let parts = and_parts _ _ dx in
    let none : list_any (λ y. x == y) (xs ++ ys) ≡ false =
    list_any-append (λ y. x == y) xs ys ∙ ap₂ (λ a b. a || b) (not_true _ parts.0) (none_same P x ys here.0 apart) in
    and_from _ _ (ap not none) (distinct_apart P xs ys here.1 apart parts.1 dy)

choice_each : (P : ℕ → Type 0) (b : Bool) (c : ℕ) → P c → Each P (if b then c ∷ [] else [])
choice_each P true c here = (here, always)
choice_each P false c here = always

-- contexts that rise, of which some are chosen, are distinct
abbrev pub picked : (ℕ → Bool) → (ℕ → ℕ) → ℕ → List ℕ
picked chosen ctx m = if chosen m then ctx m ∷ [] else []

module _ (chosen : ℕ → Bool) (ctx : ℕ → ℕ) (rises : (j k : ℕ) → j < k → ctx j < ctx k) where
  below : (k n : ℕ) → k ≤ n → ctx k ≤ ctx n
  below k n le = go (cases_lt k n)
    where
      go : (k < n) ⊎ (n ≤ k) → ctx k ≤ ctx n
      go (inl lt) = omega (arith, rises k n lt)
      go (inr ge) = omega (arith, ap ctx (let e : k ≡ n = omega (arith, le, ge) in e))

  pub picked_below : (n : ℕ) → Each (λ c. c ≤ ctx n) (joined n (picked chosen ctx))
  picked_below n = joined_each (λ c. c ≤ ctx n) n (picked chosen ctx) (λ k low high. choice_each (λ c. c ≤ ctx n) (chosen k) (ctx k) (below k n high))

  pub picked_above : (n : ℕ) → Each (λ c. ctx 0 < c) (joined n (picked chosen ctx))
  picked_above n = joined_each (λ c. ctx 0 < c) n (picked chosen ctx) (λ k low high. choice_each (λ c. ctx 0 < c) (chosen k) (ctx k) (rises 0 k (omega (arith, low))))

  one_distinct : (b : Bool) (c : ℕ) → are_distinct (if b then c ∷ [] else []) ≡ true
  one_distinct true c = refl
  one_distinct false c = refl

  pub picked_distinct : (n : ℕ) → are_distinct (joined n (picked chosen ctx)) ≡ true
  picked_distinct zero = refl
  picked_distinct (suc n) = distinct_apart (λ c. c ≤ ctx n) (joined n (picked chosen ctx)) (picked chosen ctx (n + 1)) (picked_below n)
      (choice_each (λ c. c ≤ ctx n → ⊥) (chosen (n + 1)) (ctx (n + 1)) (λ le. omega (arith, le, rises n (n + 1) (omega arith))))
      (picked_distinct n) (one_distinct (chosen (n + 1)) (ctx (n + 1)))

-- ---- rooms

abbrev pub after : Conf → List ℕ → List LineOp → List ℕ
after conf awaited [] = awaited
after conf awaited (op ∷ ops) = after conf (awaited_after conf op awaited) ops

pub after_append : (conf : Conf) (awaited : List ℕ) (xs ys : List LineOp) → after conf awaited (xs ++ ys) ≡ after conf (after conf awaited xs) ys
after_append conf awaited [] ys = refl
after_append conf awaited (op ∷ xs) ys = after_append conf (awaited_after conf op awaited) xs ys

pub room_append : (conf : Conf) (awaited : List ℕ) (xs ys : List LineOp) → room_of conf awaited xs ≡ true → room_of conf (after conf awaited xs) ys ≡ true
    → room_of conf awaited (xs ++ ys) ≡ true
room_append conf awaited [] ys first second = second
room_append conf awaited (op ∷ xs) ys first second =
    let parts = and_parts _ _ first in and_from _ _ parts.0 (room_append conf (awaited_after conf op awaited) xs ys parts.1 second)

-- there is room, and nothing is awaited in the end
abbrev pub Quiet : Conf → List LineOp → Type 0
Quiet conf ops = (room_of conf [] ops ≡ true) × (after conf [] ops ≡ [])

pub quiet_append : (conf : Conf) (xs ys : List LineOp) → Quiet conf xs → Quiet conf ys → Quiet conf (xs ++ ys)
quiet_append conf xs ys x y = (
  room_append conf [] xs ys x.0 (ap (λ (awaited : List ℕ). room_of conf awaited ys) x.1 ∙ y.0),
  after_append conf [] xs ys ∙ ap (λ (awaited : List ℕ). after conf awaited ys) x.1 ∙ y.1,
)

pub quiet_joined : (conf : Conf) (n : ℕ) (f : ℕ → List LineOp) → ((k : ℕ) → Quiet conf (f k)) → Quiet conf (joined n f)
quiet_joined conf zero f each = (refl, refl)
quiet_joined conf (suc n) f each = quiet_append conf (joined n f) (f (n + 1)) (quiet_joined conf n f each) (each (n + 1))

-- a receive that is waited for at once
pub quiet_pair : (peers c s tag len : ℕ) → s < peers → len ≤ 16_777_216 → Quiet (conf_of peers) (receive c s tag len ∷ wait c ∷ [])
quiet_pair peers c s tag len lt few = (
  ap (λ b. nat_le (length (held b)) 256 && (nat_le (length (remove_first (λ k. k == c) (held b))) 256 && true)) accepted
      ∙ ap (λ b. nat_le (length (gone b)) 256 && true) (same_number c),
  ap (λ b. remove_first (λ k. k == c) (held b)) accepted ∙ ap gone (same_number c),
)
  where
    accepted : is_accepted (conf_of peers) (receive c s tag len) ≡ true
    accepted = receive_accepted peers c s tag len lt few

    held : Bool → List ℕ
    held b = elim b [ true ↦ c ∷ [] | false ↦ [] ]

    gone : Bool → List ℕ
    gone b = elim b [ true ↦ [] | false ↦ c ∷ [] ]
