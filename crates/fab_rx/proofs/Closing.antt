-- How many multi-receives are closing: no more than there are sources, since each has an item under way.
use Rattle.std.proofs.Common.{◌≡◌, ◌≢◌, ℕ, zero, suc, ◌+◌, ◌<◌, ◌≤◌, ◌==◌, Bool, true, false, List, [], ◌∷◌, ◌++◌, length, Option, Some, None, get_or, refl, sym, ap, ◌∙◌, arith}
use Rattle.std.specs.List.{AllByRecursion}
use Rattle.std.proofs.lemmas.Bool.{eqb-true}
use Rattle.fab_base.specs.declared.items.Want.{Want}
use Rattle.fab_base.specs.declared.items.Sign.{Sign}
use Rattle.fab_base.proofs.Numbers.{numbers_differ as eqb-false}
use Rattle.fab_model.specs.Matching.{remove_first}
use Rattle.fab_match.specs.Matcher.{has_id}
use Rattle.fab_rx.specs.declared.stored.Waiting.{Waiting}
use Rattle.fab_rx.specs.declared.stored.Parcel.{Parcel}
use Rattle.fab_rx.specs.declared.stored.Way.{Way}
use Rattle.fab_rx.specs.declared.stored.Way.TheVariants.{Into, Part, Keep, Throw, Gather}
use Rattle.fab_rx.specs.declared.stored.Begun.{Begun}
use Rattle.fab_rx.specs.Table.{Cells}
use Rattle.fab_rx.specs.Arriving.{Arriving}
use Rattle.fab_rx.specs.Stored.{AreApart, IsKept}
use Rattle.fab_rx.specs.Homes.{AreMulti, IsFed, is_fed_by, is_part_of, no_pairs}
use Rattle.fab_rx.proofs.Apart.{apart_rest}
use Rattle.fab_rx.proofs.Known.{posted_count}

-- an item goes to one multi-receive
part_once : (way : Way) (i j : ℕ) → is_part_of i way ≡ true → is_part_of j way ≡ true → i ≡ j
part_once (Into seat) i j a b = absurd (cc)
part_once (Part k place bytes) i j a b = sym (eqb-true k i a) ∙ eqb-true k j b
part_once (Keep k bytes) i j a b = absurd (cc)
part_once Throw i j a b = absurd (cc)
part_once (Gather bytes) i j a b = absurd (cc)

fed_once : (b : Option Begun) (i j : ℕ) → is_fed_by i b ≡ true → is_fed_by j b ≡ true → i ≡ j
fed_once None i j a b = absurd (cc)
fed_once (Some x) i j a b = part_once x.way i j a b

-- fed by others than the first source
fed_later : (b : Option Begun) (xs : List (Option Begun)) (cs : List (ℕ × ℕ)) → AllByRecursion (IsFed (b ∷ xs)) cs → AllByRecursion (λ c. is_fed_by c.0 b ≡ false) cs → AllByRecursion (IsFed xs) cs
fed_later b xs [] a none = tt
fed_later b xs (c ∷ cs) a none = (rw none.0 at a.0, fed_later b xs cs a.1 none.1)

pub others_unfed : (b : Option Begun) (id : ℕ) (cs : List (ℕ × ℕ)) → is_fed_by id b ≡ true → has_id id cs ≡ false → AllByRecursion (λ c. is_fed_by c.0 b ≡ false) cs
others_unfed b id [] fed lacks = tt
others_unfed b id (c ∷ cs) fed lacks = by (c.0 == id) refl (λ rest. others_unfed b id cs fed rest)
  where
    here : c.0 ≢ id → (x : Bool) → is_fed_by c.0 b ≡ x → is_fed_by c.0 b ≡ false
    here other false e = e
    here other true e = absurd (other (fed_once b c.0 id e fed))

    by : (x : Bool) → (c.0 == id) ≡ x → (has_id id cs ≡ false → AllByRecursion (λ c. is_fed_by c.0 b ≡ false) cs) → AllByRecursion (λ c. is_fed_by c.0 b ≡ false) (c ∷ cs)
    by true e more = absurd (let no : true ≡ false = rw e at lacks in cc)
    by false e more = (here (eqb-false c.0 id e) (is_fed_by c.0 b) refl, more (rw e at lacks))

-- once the one that a source feeds is out, it feeds none
unfed_rest : (b : Option Begun) (cs : List (ℕ × ℕ)) → AreApart no_pairs cs → AllByRecursion (λ c. is_fed_by c.0 b ≡ false) (remove_first (λ c. is_fed_by c.0 b) cs)
unfed_rest b [] apart = tt
unfed_rest b (c ∷ cs) apart = by (is_fed_by c.0 b) refl (unfed_rest b cs apart.2)
  where
    by : (x : Bool) → is_fed_by c.0 b ≡ x → AllByRecursion (λ c. is_fed_by c.0 b ≡ false) (remove_first (λ c. is_fed_by c.0 b) cs) → AllByRecursion (λ c. is_fed_by c.0 b ≡ false) (remove_first (λ c. is_fed_by c.0 b) (c ∷ cs))
    by true e more = rw (e, remove_first) (others_unfed b c.0 cs e apart.1)
    by false e more = rw (e, remove_first) (e, more)

module _ {X : Type 0} (test : X → Bool) where
  pub all_fewer : (P : X → Type 0) (xs : List X) → AllByRecursion P xs → AllByRecursion P (remove_first test xs)
  all_fewer P [] a = a
  all_fewer P (x ∷ xs) a = by (test x) refl (all_fewer P xs a.1)
    where
      by : (b : Bool) → test x ≡ b → AllByRecursion P (remove_first test xs) → AllByRecursion P (remove_first test (x ∷ xs))
      by true e more = rw (e, remove_first) a.1
      by false e more = rw (e, remove_first) (a.0, more)

  one_fewer : (xs : List X) → length xs ≤ length (remove_first test xs) + 1
  one_fewer [] = omega arith
  one_fewer (x ∷ xs) = by (test x) refl (one_fewer xs)
    where
      by : (b : Bool) → test x ≡ b → length xs ≤ length (remove_first test xs) + 1 → length (x ∷ xs) ≤ length (remove_first test (x ∷ xs)) + 1
      by true e more = rw (e, remove_first) (omega arith)
      by false e more = rw (e, remove_first) (omega arith)

pub all_push : {X : Type 0} (P : X → Type 0) (xs : List X) (x : X) → AllByRecursion P xs → P x → AllByRecursion P (xs ++ x ∷ [])
all_push P [] x a p = (p, tt)
all_push P (y ∷ xs) x a p = (a.0, all_push P xs x a.1 p)

all_of : {X : Type 0} (P : X → Type 0) (xs : List X) → ((x : X) → P x) → AllByRecursion P xs
all_of P [] all = tt
all_of P (x ∷ xs) all = (all x, all_of P xs all)

-- each has a source of its own
pub closing_most : (xs : List (Option Begun)) (cs : List (ℕ × ℕ)) → AreApart no_pairs cs → AllByRecursion (IsFed xs) cs → length cs ≤ length xs
closing_most [] [] apart fed = omega arith
closing_most [] (c ∷ cs) apart fed = absurd (let no : false ≡ true = fed.0 in cc)
closing_most (b ∷ xs) cs apart fed =
    let test : ℕ × ℕ → Bool = λ c. is_fed_by c.0 b in
    let more = closing_most xs (remove_first test cs) (apart_rest test no_pairs cs apart) (fed_later b xs (remove_first test cs) (all_fewer test (IsFed (b ∷ xs)) cs fed) (unfed_rest b cs apart)) in
    let count = one_fewer test cs in
    omega arith

-- a source of which nothing is under way has none
pub closing_less : (xs : List (Option Begun)) (s : ℕ) (cs : List (ℕ × ℕ)) → s < length xs → get_or xs s None ≡ None → AreApart no_pairs cs → AllByRecursion (IsFed xs) cs → length cs < length xs
closing_less [] s cs below idle apart fed = absurd (omega arith)
closing_less (b ∷ xs) zero cs below idle apart fed =
    let none : (k : ℕ) → is_fed_by k b ≡ false = λ k. ap (is_fed_by k) idle in
    let more = closing_most xs cs apart (fed_later b xs cs fed (all_of (λ c. is_fed_by c.0 b ≡ false) cs (λ c. none c.0))) in
    omega arith
closing_less (b ∷ xs) (suc s) cs below idle apart fed =
    let test : ℕ × ℕ → Bool = λ c. is_fed_by c.0 b in
    let more = closing_less xs s (remove_first test cs) (omega arith) idle (apart_rest test no_pairs cs apart) (fed_later b xs (remove_first test cs) (all_fewer test (IsFed (b ∷ xs)) cs fed) (unfed_rest b cs apart)) in
    let count = one_fewer test cs in
    omega arith

-- a source whose item goes to none of them
pub closing_less_by : (xs : List (Option Begun)) (s : ℕ) (cs : List (ℕ × ℕ)) → s < length xs → AllByRecursion (λ c. is_fed_by c.0 (get_or xs s None) ≡ false) cs → AreApart no_pairs cs → AllByRecursion (IsFed xs) cs → length cs < length xs
closing_less_by [] s cs below idle apart fed = absurd (omega arith)
closing_less_by (b ∷ xs) zero cs below idle apart fed = let more = closing_most xs cs apart (fed_later b xs cs fed idle) in omega arith
closing_less_by (b ∷ xs) (suc s) cs below idle apart fed =
    let test : ℕ × ℕ → Bool = λ c. is_fed_by c.0 b in
    let rest = all_fewer test (λ c. is_fed_by c.0 (get_or xs s None) ≡ false) cs idle in
    let more = closing_less_by xs s (remove_first test cs) (omega arith) rest (apart_rest test no_pairs cs apart) (fed_later b xs (remove_first test cs) (all_fewer test (IsFed (b ∷ xs)) cs fed) (unfed_rest b cs apart)) in
    let count = one_fewer test cs in
    omega arith

pub apart_alone : {X : Type 0} (ps : List (ℕ × X)) (cs : List (ℕ × ℕ)) → AreApart ps cs → AreApart no_pairs cs
apart_alone ps [] a = tt
apart_alone ps (c ∷ cs) a = (refl, a.1, apart_alone ps cs a.2)

module _ (ps : List (ℕ × Want)) (us : List (ℕ × Sign)) (room : ℕ) (seats : Cells Waiting) (parcels : Cells Parcel) (coming : List (Option Begun)) (v : Arriving) (kept : IsKept ps us room seats parcels coming v)
    (cs : List (ℕ × ℕ)) (m : AreMulti ps cs seats coming v.rx.posted v.rx.closing v.rx.coming v.next v.multis v.most) where
  pub fewer_closing : (source : ℕ) → source < length coming → get_or coming source None ≡ None → length cs < length coming
  fewer_closing source below idle = closing_less coming source cs below idle (apart_alone ps cs m.apart) m.live

  pub few_closing : length cs ≤ length coming
  few_closing = closing_most coming cs (apart_alone ps cs m.apart) m.live

  -- a receive that may be posted has a place
  pub seat_free : length v.rx.posted < v.most → 0 < seats.spare
  seat_free less = let few = few_closing in let spare = m.spare in let same = posted_count ps us room seats parcels coming v kept in omega arith
