-- A number that is put together from its bytes, from the last and highest to the first and lowest.
use Rattle.std.proofs.Common.{◌≡◌, ℕ, suc, ◌+◌, ◌-◌, ◌*◌, ◌^◌, ◌<◌, ◌≤◌, List, length, drop, get_or, ap, arith}
use Rattle.std.proofs.Math.Nat.{pow-suc, pow-le-pow_right}
use Rattle.std.proofs.lemmas.List.{drop_more}
use Rattle.fab_model.specs.Target.{number_of}

pub number_step : (bytes : List ℕ) (i number byte : ℕ) → 0 < i → i ≤ length bytes → number ≡ number_of (drop i bytes) → byte ≡ get_or bytes (i - 1) 0 → number * 256 + byte ≡ number_of (drop (i - 1) bytes)
number_step bytes i number byte some within is at =
    let back : i - 1 + 1 ≡ i = omega arith in
    let step = drop_more bytes (i - 1) 0 (omega arith) in
    omega (arith, ap number_of step, ap (λ n. number_of (drop n bytes)) back)

pub fits_step : (len i number byte : ℕ) → 0 < i → i ≤ len → number < 256 ^ (len - i) → byte < 256 → number * 256 + byte < 256 ^ (len - (i - 1))
fits_step len i number byte some within fits small =
    let more : len - (i - 1) ≡ suc (len - i) = omega arith in
    omega (arith, pow-suc 256 (len - i), ap (λ n. 256 ^ n) more)

pub room_step : (len i number byte : ℕ) → len ≤ 8 → 0 < i → i ≤ len → number < 256 ^ (len - i) → byte < 256 → number * 256 + byte < 2 ^ 64
room_step len i number byte short some within fits small =
    let power : 256 ^ (len - i) ≤ 256 ^ 7 = pow-le-pow_right {n = 256} (omega arith) {i = len - i} {j = 7} (omega arith) in
    omega arith
