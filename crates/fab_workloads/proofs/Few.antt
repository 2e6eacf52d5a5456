-- The scripts are short: all their lines together are at most 1,000,000,000.
use Rattle.std.proofs.Common.{Bool, List, [], ap, arith, false, inl, inr, length, length-append, map, min, refl, suc, sym, true, zero, ℕ, ◌*◌, ◌++◌, ◌+◌, ◌-◌, ◌<◌, ◌∙◌, ◌∷◌, ◌≡◌, ◌≤◌, ◌⊎◌}
use Rattle.std.proofs.Math.Nat.{div-le_self, le-min, min-le_left, min-le_right, suc-mul, zero-mul}
use Rattle.std.proofs.lemmas.Bool.{cases_lt}
use Rattle.std.proofs.lemmas.List.Sums.{sum_by-append, sum_by-cons}
use Rattle.std.proofs.lemmas.List.{map-append}
use Rattle.std.specs.Prelude.{if◌then◌else◌, sum_by, ◌==◌}
use Rattle.fab_base.specs.declared.script.BytesWord.TheVariants.{Hex, Zero}
use Rattle.fab_base.specs.declared.script.LineOp.{LineOp}
use Rattle.fab_model.specs.Calls.{upto}
use Rattle.fab_workloads.specs.Commands.{IsWithin}
use Rattle.fab_workloads.specs.Generator.{dest_of, drawn, receive_of, receives, send_of, sends, source_of}
use Rattle.fab_workloads.specs.Lines.{in_window, joined, ping, pong, receive, receiving, send, sending, sent_by, wait, windows}
use Rattle.fab_workloads.specs.Script.{ops_of, payload_of}
use Rattle.fab_workloads.specs.declared.workload.Workload.TheVariants.{Bandwidth, Generated, Pingpong}
use Rattle.fab_workloads.specs.declared.workload.Workload.{Workload}

-- ---- lists by number

pub joined_few : {X : Type 0} (n : ℕ) (f : ℕ → List X) → ((k : ℕ) → length (f k) ≤ 600) → length (joined n f) ≤ 600 * n
joined_few zero f few = omega arith
joined_few (suc n) f few = omega (arith, joined_few n f few, few (n + 1), length-append (joined n f) (f (n + 1)))

pub joined_singles : {X : Type 0} (n : ℕ) (f : ℕ → X) → length (joined n (λ k. f k ∷ [])) ≡ n
joined_singles zero f = refl
joined_singles (suc n) f = omega (arith, joined_singles n f, length-append (joined n (λ k. f k ∷ [])) (f (n + 1) ∷ []))

-- ---- windows

capped : (a b c : ℕ) → min (a + b) c ≤ min a c + b
capped a b c = go (cases_lt a c)
  where
    go : (a < c) ⊎ (c ≤ a) → min (a + b) c ≤ min a c + b
    go (inl less) = omega (arith, min-le_left (a + b) c, le-min {k = a} {a = a} {b = c} (omega arith) (omega (arith, less)))
    go (inr more) = omega (arith, min-le_right (a + b) c, le-min {k = c} {a = a} {b = c} more (omega arith))

before_suc : (count window v : ℕ) → sent_by count window (suc v - 1) ≡ sent_by count window v
before_suc count window v = ap (sent_by count window) (let e : suc v - 1 ≡ v = omega arith in e)

-- a window has no more messages than it may
pub window_most : (count window w : ℕ) → sent_by count window w ≤ sent_by count window (w - 1) + window
window_most count window zero = omega (arith, min-le_left (zero * window) count, zero-mul window)
window_most count window (suc v) = omega (arith, capped (v * window) window count, before_suc count window v, ap (λ n. min n count) (suc-mul v window))

pub window_few : (count window w : ℕ) → window ≤ 256 → sent_by count window w - sent_by count window (w - 1) ≤ 256
window_few count window w most = omega (arith, window_most count window w, most)

pub in_window_long : (count window w : ℕ) (f : ℕ → LineOp)
    → length (in_window count window w (λ m. f m ∷ [])) ≡ sent_by count window w - sent_by count window (w - 1)
in_window_long count window w f =
    joined_singles (sent_by count window w - sent_by count window (w - 1)) (λ k. f (sent_by count window (w - 1) + k))

pub sending_few : (count window : ℕ) (payload : List ℕ) (w : ℕ) → window ≤ 256 → length (sending count window payload w) ≤ 600
sending_few count window payload w most =
    let sends = in_window count window w (λ m. send m 1 m (Hex payload) ∷ []) in
    let rest : List LineOp = receive (count + w) 1 (count + w) 4 ∷ wait (count + w) ∷ [] in
    omega (arith, length-append sends rest, in_window_long count window w (λ m. send m 1 m (Hex payload)), window_few count window w most)

pub receiving_few : (size count window w : ℕ) → window ≤ 256 → length (receiving size count window w) ≤ 600
receiving_few size count window w most =
    let posts = in_window count window w (λ m. receive m 0 m size ∷ []) in
    let waits = in_window count window w (λ m. wait m ∷ []) in
    let rest : List LineOp = send (count + w) 0 (count + w) (Zero 4) ∷ [] in
    omega (
      arith,
      length-append (posts ++ waits) rest,
      length-append posts waits,
      in_window_long count window w (λ m. receive m 0 m size),
      in_window_long count window w (λ m. wait m),
      window_few count window w most,
    )

-- ---- messages of a number

choice_few : (b : Bool) (xs : List LineOp) → length xs ≤ 600 → length (if b then xs else []) ≤ 600
choice_few true xs few = few
choice_few false xs few = omega arith

pub lines_few : (number peers messages p : ℕ) → messages ≤ 8_192 → length (sends number peers messages p ++ receives number peers messages p) ≤ 9_830_400
lines_few number peers messages p most = omega (
  arith,
  length-append (sends number peers messages p) (receives number peers messages p),
  joined_few messages (λ m. send_of peers p m (drawn number m)) (λ m. choice_few (source_of peers (drawn number m) == p) _ (omega arith)),
  joined_few messages (λ m. receive_of peers p (messages + m) (drawn number m)) (λ m. choice_few (dest_of peers (drawn number m) == p) _ (omega arith)),
  most,
)

all_few : (f : ℕ → List LineOp) (n : ℕ) → ((p : ℕ) → length (f p) ≤ 9_830_400) → sum_by length (map f (upto n)) ≤ 9_830_400 * n
all_few f zero few = omega arith
all_few f (suc n) few =
    let parts = ap (sum_by length) (map-append f (upto n) (n ∷ [])) ∙ sum_by-append length (map f (upto n)) (f n ∷ []) in
    omega (arith, parts, all_few f n few, few n)

-- ---- the script

pub windows_few : (count window : ℕ) → count ≤ 10_000 → window ≤ 256 → windows count window ≤ 10_256
windows_few count window few most = omega (arith, div-le_self (count + (window - 1)) window, few, most)

pub few_lines : (w : Workload) (file : List ℕ) → IsWithin w → sum_by length (ops_of w file) ≤ 1_000_000_000
few_lines (Pingpong size count) file within = omega (
  arith,
  joined_few count (ping size (payload_of size file)) (λ k. omega arith),
  joined_few count (pong size (payload_of size file)) (λ k. omega arith),
  within.2,
)
few_lines (Bandwidth size count window) file within = omega (
  arith,
  joined_few (windows count window) (sending count window (payload_of size file)) (λ k. sending_few count window (payload_of size file) k within.4),
  joined_few (windows count window) (receiving size count window) (λ k. receiving_few size count window k within.4),
  windows_few count window within.2 within.4,
)
few_lines (Generated number peers messages) file within = omega (
  arith,
  all_few (λ p. sends number peers messages p ++ receives number peers messages p) peers (λ p. lines_few number peers messages p within.3),
  within.2,
)

-- ---- lists of vectors

pub sum_mapped : {X Y : Type 0} (f : Y → ℕ) (g : X → Y) (xs : List X) → sum_by f (map g xs) ≡ sum_by (λ x. f (g x)) xs
sum_mapped f g [] = refl
sum_mapped f g (x ∷ xs) = sum_by-cons f (g x) (map g xs) ∙ ap (λ n. f (g x) + n) (sum_mapped f g xs) ∙ sym (sum_by-cons (λ x. f (g x)) x xs)
