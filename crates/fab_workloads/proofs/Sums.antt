-- The sum of a message's bytes: each 256 bytes that follow one another come to 32,640.
use Rattle.std.proofs.Common.{[], ap, arith, map, refl, suc, sum, sym, zero, ℕ, ◌%◌, ◌*◌, ◌+◌, ◌/◌, ◌^◌, ◌∙◌, ◌∷◌, ◌≡◌}
use Rattle.std.proofs.Math.Nat.{add-mod_right, div-add-mod}
use Rattle.std.proofs.lemmas.List.Sums.{sum-map, sum_by-append}
use Rattle.fab_model.specs.Calls.{upto}
use Rattle.fab_workloads.specs.Generator.{byte_of, bytes_of, length_of}

summed : (ℕ → ℕ) → ℕ → ℕ
summed f n = sum (map f (upto n))

summed_more : (f : ℕ → ℕ) (n : ℕ) → summed f (suc n) ≡ summed f n + f n
unfolding summed
summed_more f n = omega (arith, sum-map f (upto (suc n)), sum_by-append f (upto n) (n ∷ []), sum-map f (upto n))

summed_none : (f : ℕ → ℕ) → summed f zero ≡ 0
unfolding summed
summed_none f = refl

-- sums that begin one later
shifted : (g : ℕ → ℕ) (a n : ℕ) → summed (λ j. g (a + 1 + j)) n + g a ≡ summed (λ j. g (a + j)) n + g (a + n)
shifted g a zero = omega (arith, summed_none (λ j. g (a + 1 + j)), summed_none (λ j. g (a + j)), ap g (let e : a ≡ a + 0 = omega arith in e))
shifted g a (suc n) = omega (
  arith,
  shifted g a n,
  summed_more (λ j. g (a + 1 + j)) n,
  summed_more (λ j. g (a + j)) n,
  ap g (let e : a + 1 + n ≡ a + suc n = omega arith in e),
)

abbrev byte_at : ℕ → ℕ → ℕ
byte_at a j = (a + j) % 256

first_bytes : summed (byte_at 0) 256 ≡ 32_640
unfolding summed
first_bytes = refl

all_bytes : (a : ℕ) → summed (byte_at a) 256 ≡ 32_640
all_bytes zero = first_bytes
all_bytes (suc a) = omega (
  arith,
  all_bytes a,
  shifted (λ k. k % 256) a 256,
  add-mod_right a 256,
  ap (λ k. summed (byte_at k) 256) (let e : suc a ≡ a + 1 = omega arith in e),
)

one_block : (a n : ℕ) → summed (byte_at a) (256 + n) ≡ 32_640 + summed (byte_at a) n
one_block a zero = omega (arith, all_bytes a, summed_none (byte_at a), ap (summed (byte_at a)) (let e : 256 + zero ≡ 256 = omega arith in e))
one_block a (suc n) = omega (
  arith,
  one_block a n,
  ap (summed (byte_at a)) (let e : 256 + suc n ≡ suc (256 + n) = omega arith in e),
  summed_more (byte_at a) (256 + n),
  summed_more (byte_at a) n,
  ap (λ k. k % 256) (let e : a + (256 + n) ≡ a + n + 256 = omega arith in e),
  add-mod_right (a + n) 256,
)

blocks : (a q n : ℕ) → summed (byte_at a) (256 * q + n) ≡ 32_640 * q + summed (byte_at a) n
blocks a zero n = omega (arith, ap (summed (byte_at a)) (let e : 256 * zero + n ≡ n = omega arith in e))
blocks a (suc q) n = omega (
  arith,
  blocks a q n,
  ap (summed (byte_at a)) (let e : 256 * suc q + n ≡ 256 + (256 * q + n) = omega arith in e),
  one_block a (256 * q + n),
)

pub bytes_summed : (x : ℕ) → sum (bytes_of x) ≡ 32_640 * (length_of x / 256) + sum (map (byte_of x) (upto (length_of x % 256)))
unfolding summed
bytes_summed x = ap (λ n. sum (map (byte_of x) (upto n))) (sym (div-add-mod (length_of x) 256)) ∙ blocks (x / 2 ^ 24) (length_of x / 256) (length_of x % 256)
