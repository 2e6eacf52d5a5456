-- The span of an element is a power of 2, and its bits stay below it.
use Rattle.std.proofs.Common.{◌≡◌, ℕ, ◌+◌, ◌-◌, ◌%◌, ◌^◌, ◌<◌, bit_and, refl, ap, ◌∙◌, arith}
use Rattle.std.specs.Prelude.{bit_or, bit_xor}
use Rattle.std.proofs.lemmas.Nat.{and_mask, or_lt, xor_lt, and_le_l}
use Rattle.fab_base.specs.declared.items.Num.{Num}
use Rattle.fab_base.specs.declared.items.Num.TheVariants.{I8, I16, I32, I64, U8, U16, U32, U64}
use Rattle.fab_model.specs.Target.{span}

-- how many bits an element has
abbrev pub bits : Num → ℕ
bits I8 = 8
bits U8 = 8
bits I16 = 16
bits U16 = 16
bits I32 = 32
bits U32 = 32
bits I64 = 64
bits U64 = 64

pub span_is : (num : Num) → span num ≡ 2 ^ bits num
span_is I8 = refl
span_is U8 = refl
span_is I16 = refl
span_is U16 = refl
span_is I32 = refl
span_is U32 = refl
span_is I64 = refl
span_is U64 = refl

-- a number and the ones of an element
pub and_ones : (num : Num) (n ones : ℕ) → ones + 1 ≡ span num → bit_and n ones ≡ n % span num
and_ones num n ones e =
    let s : ones ≡ 2 ^ bits num - 1 = omega (arith, span_is num) in
    rw (span_is num) (ap (bit_and n) s ∙ and_mask n (bits num))

pub or_span : (num : Num) (a b : ℕ) → a < span num → b < span num → bit_or a b < span num
or_span num a b p q = rw (span_is num) (or_lt (bits num) a b (rw (span_is num) at p) (rw (span_is num) at q))

pub xor_span : (num : Num) (a b : ℕ) → a < span num → b < span num → bit_xor a b < span num
xor_span num a b p q = rw (span_is num) (xor_lt (bits num) a b (rw (span_is num) at p) (rw (span_is num) at q))

pub and_span : (num : Num) (a b : ℕ) → a < span num → bit_and a b < span num
and_span num a b p = omega (arith, and_le_l a b)
