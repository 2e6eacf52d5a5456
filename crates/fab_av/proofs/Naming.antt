-- The names of peers, and numbers in decimal.
use Rattle.std.proofs.Common.{◌≡◌, ℕ, ◌+◌, ◌-◌, ◌*◌, ◌^◌, ◌<◌, ◌≤◌, ◌≢◌, true, false, List, [], ◌∷◌, ◌++◌, length, take, drop, get_or, Some, None, suc, zero, refl, sym, ap, ◌∙◌, inl, inr, arith, codes, decimal, bytes_eq, nat_lt}
use Rattle.std.specs.Bool.{then_some}
use Rattle.std.specs.Char.{is_ascii_digit}
use Rattle.std.specs.Int.{IsInRange}
use Rattle.std.specs.Str.Parse.{digits_value}
use Rattle.std.proofs.lemmas.Bool.{cases_Bool, cases_eq, cases_lt, lt-ltb, le-ltb}
use Rattle.std.proofs.lemmas.Bool.Decides.{nat_tests}
use Rattle.std.proofs.lemmas.Fmt.{decimal_digit, first_decimal, decimal_nonempty, digits_decimal, digits_value-decimal, decimal_injective, decimal-digits_value}
use Rattle.std.proofs.lemmas.Int.Digits.{digits_value_more}
use Rattle.std.proofs.lemmas.List.Folds.{find-append}
use Rattle.std.proofs.lemmas.Slice.Eq.{bytes_eq-Decides}
use Rattle.std.proofs.lemmas.Str.{digit_value_digit}
use Rattle.std.proofs.lemmas.Str.Parse.{IsNumeralModel, numerals_by_value, tells_by_index, digits_value-take-le}
use Rattle.fab_model.specs.Calls.{peer_named, upto}

-- ---- numbers in decimal

abbrev pub AreDigits : List ℕ → Type 0
AreDigits ds = (i : ℕ) → i < length ds → IsInRange 48 57 (get_or ds i 0)

own : IsNumeralModel AreDigits (digits_value 10)
own = numerals_by_value AreDigits tells_by_index

-- no number is written so
abbrev pub IsNoDecimal : List ℕ → Type 0
IsNoDecimal ds = (n : ℕ) → n < 2 ^ 32 → decimal n ≢ ds

decimal_filled : (n : ℕ) (ds : List ℕ) → n < 2 ^ 32 → decimal n ≡ ds → 0 < length ds
decimal_filled n ds h e = rw (← e) (decimal_nonempty n (omega arith))

decimal_led : (n : ℕ) (ds : List ℕ) → n < 2 ^ 32 → decimal n ≡ ds → get_or ds 0 0 ≡ 48 → length ds ≡ 1
decimal_led n ds h e zero_first = elim (cases_eq n 0) [
  | inl is_zero ↦
      let same : decimal 0 ≡ ds = rw is_zero at e in
      rw (← same, decimal_digit 0 (omega arith)) refl
  | inr more ↦
      let first : 48 < get_or ds 0 0 = rw e at (first_decimal n (omega arith) (omega arith)) in
      absurd (omega arith)
]

decimal_digits : (n : ℕ) (ds : List ℕ) → n < 2 ^ 32 → decimal n ≡ ds → AreDigits ds
decimal_digits n ds h e = rw (← e) (digits_decimal own n (omega arith))

decimal_value : (n : ℕ) (ds : List ℕ) → n < 2 ^ 32 → decimal n ≡ ds → digits_value 10 ds ≡ n
decimal_value n ds h e = rw (← e) (digits_value-decimal own n (omega arith))

pub no_decimal_led : (ds : List ℕ) → ((0 < length ds) × (get_or ds 0 0 ≡ 48 → length ds ≡ 1) → ⊥) → IsNoDecimal ds
no_decimal_led ds wrong n h e = wrong (decimal_filled n ds h e, decimal_led n ds h e)

pub no_decimal_digit : (ds : List ℕ) (i : ℕ) → i < length ds → is_ascii_digit (get_or ds i 0) ≡ false → IsNoDecimal ds
no_decimal_digit ds i within wrong n h e =
    let digit = decimal_digits n ds h e i within in
    grind (arith, nat_tests)

pub no_decimal_big : (ds : List ℕ) (i : ℕ) → 2 ^ 32 ≤ digits_value 10 (take i ds) → IsNoDecimal ds
no_decimal_big ds i big n h e =
    let value = decimal_value n ds h e in
    let front = digits_value-take-le 10 ds i (omega arith) in
    absurd (omega arith)

-- one digit more
pub digit_step : (ds : List ℕ) (i value : ℕ) → i < length ds → value ≡ digits_value 10 (take i ds) → IsInRange 48 57 (get_or ds i 0) → value * 10 + (get_or ds i 0 - 48) ≡ digits_value 10 (take (i + 1) ds)
digit_step ds i value h e in_range =
    let more = digits_value_more 10 ds i h in
    let digit = digit_value_digit (get_or ds i 0) in_range in
    omega arith

pub no_decimal_next : (ds : List ℕ) (i value : ℕ) → i < length ds → value ≡ digits_value 10 (take i ds) → IsInRange 48 57 (get_or ds i 0) → 2 ^ 32 ≤ value * 10 + (get_or ds i 0 - 48) → IsNoDecimal ds
no_decimal_next ds i value h e in_range big =
    let step = digit_step ds i value h e in_range in
    no_decimal_big ds (i + 1) (omega arith)

pub decimal_of : (ds : List ℕ) → 0 < length ds → (get_or ds 0 0 ≡ 48 → length ds ≡ 1) → AreDigits ds → digits_value 10 ds < 2 ^ 32 → decimal (digits_value 10 ds) ≡ ds
decimal_of ds filled led digits fits = decimal-digits_value own ds digits filled led (omega arith)

-- ---- names

-- the name of a peer
abbrev name_of : ℕ → List ℕ
name_of k = codes "shm://" ++ decimal k

-- a name says at most one number
one_name : (j k : ℕ) (name : List ℕ) → j < 2 ^ 32 → k < 2 ^ 32 → name_of j ≡ name → name_of k ≡ name → j ≡ k
one_name j k name hj hk ej ek =
    let digits : decimal j ≡ decimal k = ap (drop 6) (ej ∙ sym ek) in
    decimal_injective j k (omega arith) (omega arith) digits

other_name : (k : ℕ) (name : List ℕ) → name_of k ≢ name → bytes_eq (name_of k) name ≡ false
other_name k name wrong = elim (cases_Bool (bytes_eq (name_of k) name)) [
  | inl same ↦ absurd (wrong ((bytes_eq-Decides (name_of k) name).0 same))
  | inr other ↦ other
]

pub peer_named-none : (peers : ℕ) (name : List ℕ) → ((k : ℕ) → k < peers → name_of k ≢ name) → peer_named peers name ≡ None
peer_named-none zero name wrong = refl
peer_named-none (suc n) name wrong =
    let before = peer_named-none n name (λ k h. wrong k (omega arith)) in
    let last = other_name n name (wrong n (omega arith)) in
    let split = find-append (λ k. bytes_eq (name_of k) name) (upto n) (n ∷ []) in
    split ∙ rw (before, last) refl

pub peer_named-some : (peers k : ℕ) (name : List ℕ) → peers ≤ 2 ^ 32 → k < peers → name_of k ≡ name → peer_named peers name ≡ Some k
peer_named-some zero k name few below e = absurd (omega arith)
peer_named-some (suc n) k name few below e =
    let split = find-append (λ k. bytes_eq (name_of k) name) (upto n) (n ∷ []) in
    elim (cases_eq k n) [
      | inl last ↦
          let others = peer_named-none n name (λ j h same.
          let equal = one_name j k name (omega arith) (omega arith) same e in
          omega arith) in
          let passes : bytes_eq (name_of n) name ≡ true = (bytes_eq-Decides (name_of n) name).1 (rw last at e) in
          split ∙ rw (others, passes) (ap Some (sym last))
      | inr before ↦
          let found = peer_named-some n k name (omega arith) (omega arith) e in
          split ∙ rw found refl
    ]

-- the number that a name says, where it is that of a peer
pub peer_named-then_some : (peers k : ℕ) (name : List ℕ) → peers < 2 ^ 32 → k < 2 ^ 32 → name_of k ≡ name → then_some (nat_lt k peers) k ≡ peer_named peers name
peer_named-then_some peers k name few small e = elim (cases_lt k peers) [
  | inl below ↦ rw (lt-ltb k peers below) (sym (peer_named-some peers k name (omega arith) below e))
  | inr above ↦ rw (le-ltb k peers above) (sym (peer_named-none peers name (λ j h ej.
      let equal = one_name j k name (omega arith) small ej e in
      omega arith)))
]
