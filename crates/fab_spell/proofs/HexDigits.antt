-- Bytes that are written with two digits each are read again.
use Rattle.std.proofs.Common.{◌≡◌, ℕ, zero, suc, ◌+◌, ◌/◌, ◌%◌, ◌<◌, Bool, true, ◌&&◌, eqb, ltb, List, [], ◌∷◌, slice_index, inl, inr, ap, ◌∙◌, refl, arith}
use Rattle.std.specs.Prelude.{Ok}
use Rattle.std.specs.List.{list_all}
use Rattle.std.proofs.lemmas.Bool.{and_parts, and_from, cases_lt, cond_both, eqb-true, lt-ltb, le-leb}
use Rattle.fab_model.specs.Words.{hex_digit, hex}
use Rattle.fab_spell.proofs.Numbers.{is_printable}
use Rattle.hex.specs.Hex.{IsBytes, decode_of, encode_lower, encode_with, lower_digits}
use Rattle.hex.proofs.HexLemmas.{decode_of-encode_lower}

-- the digits are those of the table, tested one by one
abbrev is_digit_at : ℕ → Bool
is_digit_at n = eqb (hex_digit n) (slice_index lower_digits n)

abbrev are_digits_to : ℕ → Bool
are_digits_to zero = true
are_digits_to (suc n) = is_digit_at n && are_digits_to n

digit_below : (n k : ℕ) → are_digits_to n ≡ true → k < n → is_digit_at k ≡ true
digit_below zero k e below = absurd (omega arith)
digit_below (suc n) k e below =
    let parts = and_parts (is_digit_at n) (are_digits_to n) e in
    elim (cases_lt k n) [
      | inl less ↦ digit_below n k parts.1 less
      | inr top ↦
          let same : k ≡ n = omega arith in
          rw same parts.0
    ]

digit_is : (k : ℕ) → k < 16 → hex_digit k ≡ slice_index lower_digits k
digit_is k below = eqb-true (hex_digit k) (slice_index lower_digits k) (digit_below 16 k refl below)

pub hex-encode : (bytes : List ℕ) → IsBytes bytes → hex bytes ≡ encode_lower bytes
unfolding encode_with
hex-encode [] all = refl
hex-encode (b ∷ bytes) all =
    let fits : b < 256 = all 0 in
    let high = digit_is (b / 16) (omega arith) in
    let low = digit_is (b % 16) (omega arith) in
    rw (high, low, hex-encode bytes (λ k. all (suc k))) refl

pub hex_again : (bytes : List ℕ) → IsBytes bytes → decode_of (hex bytes) ≡ Ok bytes
hex_again bytes all = ap (λ text. decode_of text) (hex-encode bytes all) ∙ decode_of-encode_lower bytes all

digit_prints : (n : ℕ) → n < 16 → is_printable (hex_digit n) ≡ true
digit_prints n below =
    cond_both (ltb n 10) (48 + n) (87 + n) (λ b. is_printable b ≡ true)
    (λ e. and_from _ _ (lt-ltb 32 (48 + n) (omega arith)) (le-leb (48 + n) 126 (omega arith)))
    (λ e. and_from _ _ (lt-ltb 32 (87 + n) (omega arith)) (le-leb (87 + n) 126 (omega arith)))

pub printable-hex : (bytes : List ℕ) → IsBytes bytes → list_all is_printable (hex bytes) ≡ true
printable-hex [] all = refl
printable-hex (b ∷ bytes) all =
    let fits : b < 256 = all 0 in
    and_from _ _ (digit_prints (b / 16) (omega arith)) (and_from _ _ (digit_prints (b % 16) (omega arith)) (printable-hex bytes (λ k. all (suc k))))
