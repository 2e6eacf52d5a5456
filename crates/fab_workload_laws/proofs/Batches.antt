-- Receives that are posted one after another, and then waited for in the same order.
use Rattle.std.proofs.Common.{List, [], ap, arith, false, length, refl, suc, true, zero, ℕ, ◌&&◌, ◌++◌, ◌+◌, ◌-◌, ◌∙◌, ◌∷◌, ◌≡◌, ◌≤◌}
use Rattle.std.proofs.lemmas.Bool.Decides.{nat_tests}
use Rattle.std.proofs.lemmas.Bool.{and_from}
use Rattle.std.specs.Prelude.{nat_le, ◌==◌}
use Rattle.fab_base.specs.declared.script.LineOp.{LineOp}
use Rattle.fab_model.specs.Matching.{remove_first}
use Rattle.fab_answer.proofs.Lists.{differ_is, same_number}
use Rattle.fab_workloads.specs.Lines.{joined, receive, wait}
use Rattle.fab_workloads.specs.Script.{conf_of}
use Rattle.fab_workload_laws.proofs.Ops.{room_of}
use Rattle.fab_workload_laws.proofs.Rooms.{Quiet, after, after_append, room_append}
use Rattle.fab_workload_laws.proofs.Settings.{receive_accepted}

pub nat_within : (n : ℕ) → n ≤ 256 → nat_le n 256 ≡ true
nat_within n le = grind (arith, nat_tests, le)

module _ (base size : ℕ) (small : size ≤ 16_777_216) where
  -- the n contexts after base + i, the last one first
  abbrev above : ℕ → ℕ → List ℕ
  above i zero = []
  above i (suc n) = (base + (i + (n + 1))) ∷ above i n

  above_long : (i n : ℕ) → length (above i n) ≡ n
  above_long i zero = refl
  above_long i (suc n) = omega (arith, above_long i n)

  abbrev posts : ℕ → List LineOp
  posts k = receive (base + k) 0 (base + k) size ∷ []

  abbrev waits : ℕ → List LineOp
  waits k = wait (base + k) ∷ []

  -- ---- posting

  post_held : (n : ℕ) → after (conf_of 2) (above 0 n) (posts (n + 1)) ≡ above 0 (suc n)
  post_held n = ap (λ b. elim b [ true ↦ (base + (n + 1)) ∷ above 0 n | false ↦ above 0 n ]) (receive_accepted 2 (base + (n + 1)) 0 (base + (n + 1)) size (omega arith) small)
      ∙ ap (λ k. (base + k) ∷ above 0 n) (let e : n + 1 ≡ 0 + (n + 1) = omega arith in e)

  posts_held : (n : ℕ) → after (conf_of 2) [] (joined n posts) ≡ above 0 n
  posts_held zero = refl
  posts_held (suc n) = after_append (conf_of 2) [] (joined n posts) (posts (n + 1)) ∙ ap (λ (held : List ℕ). after (conf_of 2) held (posts (n + 1))) (posts_held n) ∙ post_held n

  posts_room : (n : ℕ) → n ≤ 256 → room_of (conf_of 2) [] (joined n posts) ≡ true
  posts_room zero le = refl
  posts_room (suc n) le = room_append (conf_of 2) [] (joined n posts) (posts (n + 1)) (posts_room n (omega (arith, le)))
      (ap (λ (held : List ℕ). room_of (conf_of 2) held (posts (n + 1))) (posts_held n)
      ∙ ap (λ (held : List ℕ). nat_le (length held) 256 && true) (post_held n)
      ∙ ap (λ k. nat_le k 256 && true) (above_long 0 (suc n))
      ∙ and_from _ _ (nat_within (suc n) le) refl)

  -- ---- waiting

  -- the context that is waited for is the last one
  one_gone : (i n : ℕ) → remove_first (λ c. c == (base + (i + 1))) (above i (suc n)) ≡ above (i + 1) n
  one_gone i zero = ap (λ b. let left : List ℕ = elim b [ true ↦ [] | false ↦ (base + (i + (0 + 1))) ∷ [] ] in left) (same_number (base + (i + 1)))
  one_gone i (suc n) =
      let other : ((base + (i + (suc n + 1))) == (base + (i + 1))) ≡ false = differ_is (base + (i + (suc n + 1))) (base + (i + 1)) (λ e. omega (arith, e)) in
      ap (λ b. elim b [ true ↦ above i (suc n) | false ↦ (base + (i + (suc n + 1))) ∷ remove_first (λ c. c == (base + (i + 1))) (above i (suc n)) ]) other
      ∙ ap (λ held. (base + (i + (suc n + 1))) ∷ held) (one_gone i n)
      ∙ ap (λ k. (base + k) ∷ above (i + 1) n) (let e : i + (suc n + 1) ≡ i + 1 + (n + 1) = omega arith in e)

  gone_at : (j n : ℕ) → suc j ≤ n → remove_first (λ c. c == (base + (j + 1))) (above j (n - j)) ≡ above (suc j) (n - suc j)
  gone_at j n le =
      ap (λ k. remove_first (λ c. c == (base + (j + 1))) (above j k)) (let e : n - j ≡ suc (n - suc j) = omega (arith, le) in e)
      ∙ one_gone j (n - suc j)
      ∙ ap (λ k. above k (n - suc j)) (let e : j + 1 ≡ suc j = omega arith in e)

  waits_held : (n j : ℕ) → j ≤ n → after (conf_of 2) (above 0 n) (joined j waits) ≡ above j (n - j)
  waits_held n zero le = ap (above 0) (let e : n ≡ n - 0 = omega arith in e)
  waits_held n (suc j) le = after_append (conf_of 2) (above 0 n) (joined j waits) (waits (j + 1))
      ∙ ap (λ (held : List ℕ). after (conf_of 2) held (waits (j + 1))) (waits_held n j (omega (arith, le))) ∙ gone_at j n le

  waits_room : (n j : ℕ) → n ≤ 256 → j ≤ n → room_of (conf_of 2) (above 0 n) (joined j waits) ≡ true
  waits_room n zero most le = refl
  waits_room n (suc j) most le = room_append (conf_of 2) (above 0 n) (joined j waits) (waits (j + 1)) (waits_room n j most (omega (arith, le)))
      (ap (λ (held : List ℕ). room_of (conf_of 2) held (waits (j + 1))) (waits_held n j (omega (arith, le)))
      ∙ ap (λ (held : List ℕ). nat_le (length held) 256 && true) (gone_at j n le)
      ∙ ap (λ k. nat_le k 256 && true) (above_long (suc j) (n - suc j))
      ∙ and_from _ _ (nat_within (n - suc j) (omega (arith, most))) refl)

  pub quiet_batch : (n : ℕ) → n ≤ 256 → Quiet (conf_of 2) (joined n posts ++ joined n waits)
  quiet_batch n most = (
    room_append (conf_of 2) [] (joined n posts) (joined n waits) (posts_room n most) (ap (λ (held : List ℕ). room_of (conf_of 2) held (joined n waits)) (posts_held n) ∙ waits_room n n most (omega arith)),
    after_append (conf_of 2) [] (joined n posts) (joined n waits) ∙ ap (λ (held : List ℕ). after (conf_of 2) held (joined n waits)) (posts_held n) ∙ waits_held n n (omega arith)
        ∙ ap (above n) (let e : n - n ≡ 0 = omega arith in e),
  )
