-- What plans come to.
use Rattle.std.proofs.Common.{◌≡◌, ℕ, zero, suc, ◌+◌, ◌-◌, ◌%◌, ◌^◌, ◌<◌, cond, eqb, List, [], ◌∷◌, map, length, get_or, replicate, sym, refl, ap, ◌∙◌, arith}
use Rattle.std.proofs.lemmas.List.{same_lists, get_or_default}
use Rattle.std.proofs.lemmas.List.FromFn.{length-map-range_with_len, get_or-map-range_with_len}
use Rattle.std.proofs.lemmas.List.Sums.{sum_by-cons, sum_by-append}
use Rattle.fab_window.specs.declared.kinds.Draw.{Draw}
use Rattle.fab_window.specs.declared.board.WindowSeat.{WindowSeat}
use Rattle.fab_window.specs.Accounts.{draws}
use Rattle.fab_window.specs.Rule.{share, added}
use Rattle.fab_window.specs.Gather.{AreSettled}
use Rattle.fab_window.proofs.Pasts.{sum_adds}
use Rattle.fab_window.specs.declared.board.Board.{Board}
use Rattle.fab_window.specs.Seats.{account_of, board_of, AreAll}
use Rattle.fab_workloads.specs.Generator.{next_drawn}
use Rattle.fab_command_runs.specs.Planned.{operand, place, planned, part, due, parts, totals}

pub plan_step : (words x left : ℕ) → 0 < left → planned words x left ≡ (place words (next_drawn x), operand (next_drawn x)) ∷ planned words (next_drawn x) (left - 1)
plan_step words x zero h = absurd (omega arith)
plan_step words x (suc n) h = ap (λ (z : ℕ). (place words (next_drawn x), operand (next_drawn x)) ∷ planned words (next_drawn x) z) (let e : n ≡ suc n - 1 = omega arith in e)

-- what these additions come to is what their parts come to
part_is : (w : ℕ) (ds : List Draw) → added w ds ≡ part w (parts ds)
part_is w [] = refl
part_is w (d ∷ ds) = let s = sum_by-cons (share w) d ds in let t = sum_by-cons (λ (q : ℕ × ℕ). cond (eqb q.0 w) q.1 0) (d.word, d.n) (parts ds) in let rest = part_is w ds in omega arith

-- the additions of seats that each did their plan, from the p-th on
pub plans_done : (w number words adds p : ℕ) (seats : List WindowSeat) → ((k : ℕ) (d : WindowSeat) → k < length seats → parts (account_of (get_or seats k d)).drawn ≡ planned words ((number + (p + k)) % 2 ^ 64) adds)
    → added w (draws (map account_of seats)) ≡ due w number words adds p (length seats)
plans_done w number words adds p [] done = refl
plans_done w number words adds p (s ∷ rest) done =
    let split = sum_by-append (share w) (account_of s).drawn (draws (map account_of rest)) in
    let own : added w (account_of s).drawn ≡ part w (planned words ((number + p) % 2 ^ 64) adds) = part_is w (account_of s).drawn ∙ ap (part w) (done 0 s (omega arith) ∙ ap (λ (z : ℕ). planned words ((number + z) % 2 ^ 64) adds) (let e : p + 0 ≡ p = omega arith in e)) in
    let others = plans_done w number words adds (p + 1) rest (λ k d near. done (suc k) d (omega arith) ∙ ap (λ (z : ℕ). planned words ((number + z) % 2 ^ 64) adds) (let e : p + suc k ≡ p + 1 + k = omega arith in e)) in
    omega arith

-- so the words hold what the plans come to
pub totals_are : (number peers words adds : ℕ) (seats : List WindowSeat) (starts vs : List ℕ) → length starts ≡ words → ((w : ℕ) → get_or starts w 0 ≡ 0) → length seats ≡ peers
    → ((k : ℕ) (d : WindowSeat) → k < length seats → parts (account_of (get_or seats k d)).drawn ≡ planned words ((number + k) % 2 ^ 64) adds)
    → AreSettled (map account_of seats) starts vs → vs ≡ totals number peers words adds
totals_are number peers words adds seats starts vs long zeros count done settled = same_lists vs (totals number peers words adds) (settled.count ∙ long ∙ sym size)
    (λ w d near. let low : w < words = (let e = settled.count in omega arith) in let one = settled.each w (omega arith) in
    let sum : get_or vs w 0 ≡ get_or starts w 0 + added w (draws (map account_of seats)) = one.sum ∙ ap (λ (z : ℕ). get_or starts w 0 + z) (sum_adds (draws (map account_of seats)) w) in
    let all = plans_done w number words adds 0 seats (λ k e low. done k e low ∙ ap (λ (z : ℕ). planned words ((number + z) % 2 ^ 64) adds) (let h : k ≡ 0 + k = omega arith in h)) in let zero_start = zeros w in
    let here : get_or vs w 0 ≡ due w number words adds 0 peers = (let e : due w number words adds 0 (length seats) ≡ due w number words adds 0 peers = ap (due w number words adds 0) count in omega arith) in
    let there : get_or (totals number peers words adds) w d ≡ due w number words adds 0 peers = get_or-map-range_with_len (λ (u : ℕ). due u number words adds 0 peers) 0 words w w d low (let h : 0 + w ≡ w = omega arith in h) in
    get_or_default vs w d 0 near ∙ here ∙ sym there)
  where
    size : length (totals number peers words adds) ≡ words
    size = length-map-range_with_len (λ (u : ℕ). due u number words adds 0 peers) 0 words

-- seats that stepped are still those of their window
pub still_all : (b : Board) (xs ys : List WindowSeat) → length ys ≡ length xs → ((k : ℕ) (d : WindowSeat) → k < length xs → board_of (get_or ys k d) ≡ board_of (get_or xs k d)) → AreAll b xs → AreAll b ys
still_all b xs ys same boards all = record { count = same ∙ all.count; boards = λ k d near. boards k d (omega arith) ∙ all.boards k d (omega arith) }

abbrev pub zeros : ℕ → List ℕ
zeros n = replicate n 0

pub zeros_at : (n i : ℕ) → get_or (zeros n) i 0 ≡ 0
zeros_at zero i = refl
zeros_at (suc n) zero = refl
zeros_at (suc n) (suc i) = zeros_at n i
