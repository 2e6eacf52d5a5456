-- Which digits are the number of a peer.
use Rattle.std.proofs.Common.{◌≡◌, ℕ, ◌+◌, ◌-◌, ◌*◌, ◌<◌, ◌≤◌, Bool, true, false, not, ◌&&◌, List, [], ◌∷◌, ◌++◌, length, take, drop, get_or, refl, ap, arith, ltb, eqb, fold}
use Rattle.std.specs.List.{list_all}
use Rattle.std.proofs.lemmas.Bool.{ltb-true}
use Rattle.std.proofs.lemmas.List.{take-append-drop}
use Rattle.std.proofs.lemmas.List.Folds.{list_all_at}
use Rattle.std.proofs.lemmas.List.Sums.{fold-append}
use Rattle.fab_model.specs.Words.{read_decimal}
use Rattle.fab_report.specs.Reading.{is_digit, is_numeral, names_peer}

-- a numeral is digits alone
all_digits : (ds : List ℕ) → list_all is_digit ds ≡ false → is_numeral ds ≡ false
all_digits [] e = refl
all_digits (d ∷ []) e = by (is_digit d) refl e
  where
    by : (b : Bool) → is_digit d ≡ b → (is_digit d && true) ≡ false → is_digit d ≡ false
    by true is f = absurd (let g : true ≡ false = rw is at f in cc)
    by false is f = is
all_digits (d ∷ e ∷ ds) f = by (not (eqb d 48)) f
  where
    by : (b : Bool) → list_all is_digit (d ∷ e ∷ ds) ≡ false → (b && list_all is_digit (d ∷ e ∷ ds)) ≡ false
    by true f = f
    by false f = refl

no_numeral : (peers : ℕ) (ds : List ℕ) → is_numeral ds ≡ false → names_peer peers ds ≡ false
no_numeral peers ds e = rw e refl

pub not_digit : (peers : ℕ) (ds : List ℕ) (i : ℕ) → i < length ds → is_digit (get_or ds i 0) ≡ false → names_peer peers ds ≡ false
not_digit peers ds i within e = no_numeral peers ds (all_digits ds (list_all_at is_digit ds i 0 within e))

-- further digits make a number no less
grows : (n : ℕ) (ds : List ℕ) → n ≤ fold (λ n digit. n * 10 + (digit - 48)) n ds
grows n [] = omega arith
grows n (d ∷ ds) = let ih = grows (n * 10 + (d - 48)) ds in omega (arith, ih)

too_great_by : (peers : ℕ) (ds : List ℕ) (b c : Bool) → is_numeral ds ≡ b → ltb (read_decimal ds) peers ≡ c → peers ≤ read_decimal ds → names_peer peers ds ≡ false
too_great_by peers ds false c is lt le = rw is refl
too_great_by peers ds true false is lt le = rw (is, lt) refl
too_great_by peers ds true true is lt le = absurd (omega (arith, ltb-true (read_decimal ds) peers lt))

pub too_great : (peers : ℕ) (ds : List ℕ) (i : ℕ) → peers ≤ read_decimal (take i ds) → names_peer peers ds ≡ false
too_great peers ds i le =
    let whole = fold-append (λ n digit. n * 10 + (digit - 48)) 0 (take i ds) (drop i ds) in
    let same : read_decimal (take i ds ++ drop i ds) ≡ read_decimal ds = ap read_decimal (take-append-drop i ds) in
    let more = grows (read_decimal (take i ds)) (drop i ds) in
    too_great_by peers ds (is_numeral ds) (ltb (read_decimal ds) peers) refl refl (omega (arith, whole, same, more))
