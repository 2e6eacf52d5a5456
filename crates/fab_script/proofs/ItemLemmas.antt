-- What one item more does to the parts.
use Rattle.std.proofs.Common.{◌≡◌, ◌≢◌, ℕ, ◌+◌, ◌-◌, ◌<◌, Bool, true, false, cond, eqb, List, [], ◌∷◌, ◌++◌, length, get_or, set, Some, None, sym, ap, ◌∙◌, refl, arith, add-zero, zero-add, append-nil}
use Rattle.std.proofs.lemmas.List.{same_lists, length-set, get_or-set_other}
use Rattle.std.proofs.lemmas.Grind.{get_or-set_at}
use Rattle.std.proofs.lemmas.List.FromFn.{length-map-range_with_len, get_or-map-range_with_len}
use Rattle.std.specs.Prelude.{slice_get}
use Rattle.std.proofs.lemmas.Option.{slice_get-get_or}
use Rattle.std.specs.List.{list_any, last_or, sum_by}
use Rattle.std.proofs.lemmas.Bool.Decides.{nat_tests}
use Rattle.std.proofs.lemmas.List.Sums.{sum_by-append}
use Rattle.fab_base.specs.declared.script.Line.{Line}
use Rattle.fab_grammar.specs.declared.items.Item.{Item}
use Rattle.fab_grammar.specs.declared.items.Item.TheVariants.{Peer, Does}
use Rattle.fab_grammar.specs.Lines.{op_size}
use Rattle.fab_grammar.specs.Before.{is_distinct, opened_by, part_of, parts_of, size_of, until_peer}
use Rattle.fab_grammar.proofs.PartLemmas.{or_false, opened_by-append, distinct_first}

-- `peer K` at the end: no part changes
until_peer_open : (xs : List Item) (k : ℕ) → until_peer (xs ++ Peer k ∷ []) ≡ until_peer xs
until_peer_open [] k = refl
until_peer_open (Peer j ∷ xs) k = refl
until_peer_open (Does line ∷ xs) k = ap (λ lines. line ∷ lines) (until_peer_open xs k)

pub part_of_open : (xs : List Item) (j k : ℕ) → part_of j (xs ++ Peer k ∷ []) ≡ part_of j xs
part_of_open [] j k = either (eqb k j)
  where
    either : (b : Bool) → cond {A = List Line} b [] [] ≡ []
    either true = refl
    either false = refl
part_of_open (Peer i ∷ xs) j k = rw (until_peer_open xs k, part_of_open xs j k) refl
part_of_open (Does line ∷ xs) j k = part_of_open xs j k

pub sum_open : (xs : List Item) (k : ℕ) → sum_by size_of (xs ++ Peer k ∷ []) ≡ sum_by size_of xs
sum_open xs k = sum_by-append size_of xs (Peer k ∷ []) ∙ add-zero (sum_by size_of xs)

-- A line at the end: it joins the part of the peer that was opened last.
pub last_is : (ks : List ℕ) → slice_get ks (length ks - 1) ≡ last_or None ks
last_is [] = refl
last_is (k ∷ ks) =
    let rest : length (k ∷ ks) - 1 ≡ length ks = omega arith in
    ap (slice_get (k ∷ ks)) rest ∙ at_last k ks
  where
    at_last : (k : ℕ) (ks : List ℕ) → slice_get (k ∷ ks) (length ks) ≡ last_or (Some k) ks
    at_last k [] = refl
    at_last k (j ∷ js) = at_last j js

pub last_at : (ks : List ℕ) (k : ℕ) → 0 < length ks → k ≡ get_or ks (length ks - 1) k → last_or None ks ≡ Some k
last_at ks k h e = sym (last_is ks) ∙ (slice_get-get_or ks (length ks - 1) k (omega arith) ∙ ap Some (sym e))

-- the lines after the last `peer` are those that a line at the end follows
until_peer_add : (xs : List Item) (line : Line) → opened_by xs ≡ [] → until_peer (xs ++ Does line ∷ []) ≡ until_peer xs ++ line ∷ []
until_peer_add [] line e = refl
until_peer_add (Peer k ∷ xs) line e = cc
until_peer_add (Does other ∷ xs) line e = ap (λ lines. other ∷ lines) (until_peer_add xs line e)

until_peer_past : (xs : List Item) (line : Line) → 0 < length (opened_by xs) → until_peer (xs ++ Does line ∷ []) ≡ until_peer xs
until_peer_past [] line h = absurd (omega arith)
until_peer_past (Peer k ∷ xs) line h = refl
until_peer_past (Does other ∷ xs) line h = ap (λ lines. other ∷ lines) (until_peer_past xs line h)

-- where no peer is opened, no part has lines
pub part_of_none : (xs : List Item) (j : ℕ) → opened_by xs ≡ [] → part_of j xs ≡ []
part_of_none [] j e = refl
part_of_none (Peer k ∷ xs) j e = cc
part_of_none (Does line ∷ xs) j e = part_of_none xs j e

none_add : (xs : List Item) (line : Line) → opened_by xs ≡ [] → opened_by (xs ++ Does line ∷ []) ≡ []
none_add xs line e = opened_by-append xs (Does line ∷ []) ∙ rw e refl

-- Where k is the last of distinct numbers, it is none of those before it.
last_of_more : (i k : ℕ) (ks : List ℕ) → 0 < length ks → last_or (Some i) ks ≡ last_or None ks
last_of_more i k [] h = absurd (omega arith)
last_of_more i k (j ∷ js) h = refl

last_apart : (i k : ℕ) (ks : List ℕ) → last_or None ks ≡ Some k → list_any (λ j. eqb j i) ks ≡ false → eqb k i ≡ false
last_apart i k [] e none = cc
last_apart i k (j ∷ []) e none =
    let first = or_false (eqb j i) false none in
    let same : j ≡ k = cc in
    ap (λ m. eqb m i) (sym same) ∙ first.0
last_apart i k (j ∷ l ∷ ls) e none = last_apart i k (l ∷ ls) e (or_false (eqb j i) (list_any (λ m. eqb m i) (l ∷ ls)) none).1

-- the part of j, with a line at the end where j is k
abbrev with_line : Bool → Line → List Line → List Line
with_line last line lines = cond last (lines ++ line ∷ []) lines

part_of_last : (xs : List Item) (j i : ℕ) (line : Line) → opened_by xs ≡ [] → part_of j (Peer i ∷ (xs ++ Does line ∷ [])) ≡ with_line (eqb i j) line (part_of j (Peer i ∷ xs))
part_of_last xs j i line e =
    let here = until_peer_add xs line e in
    let none = part_of_none xs j e in
    let more = part_of_none (xs ++ Does line ∷ []) j (none_add xs line e) in
    elim (eqb i j) as (λ b. cond b (until_peer (xs ++ Does line ∷ [])) (part_of j (xs ++ Does line ∷ [])) ≡ with_line b line (cond b (until_peer xs) (part_of j xs))) [
      | true ↦ here
      | false ↦ more ∙ sym none
    ]

-- an earlier peer is not the last, so its part stays
passed_by : (b : Bool) (i j k : ℕ) (line : Line) (here here' rest rest' : List Line) → eqb i j ≡ b → eqb k i ≡ false → here' ≡ here → rest' ≡ with_line (eqb k j) line rest → cond b here' rest' ≡ with_line (eqb k j) line (cond b here rest)
passed_by true i j k line here here' rest rest' same apart e f =
    let other : eqb k j ≡ false = grind (arith, nat_tests) in
    rw other e
passed_by false i j k line here here' rest rest' same apart e f = f

pub part_of_add : (xs : List Item) (j k : ℕ) (line : Line) → is_distinct (opened_by xs) ≡ true → last_or None (opened_by xs) ≡ Some k → part_of j (xs ++ Does line ∷ []) ≡ with_line (eqb k j) line (part_of j xs)
part_of_add [] j k line d e = cc
part_of_add (Does other ∷ xs) j k line d e = part_of_add xs j k line d e
part_of_add (Peer i ∷ xs) j k line d e = by_opened (λ d' e'. part_of_add xs j k line d' e') (opened_by xs) refl
  where
    by_opened : (is_distinct (opened_by xs) ≡ true → last_or None (opened_by xs) ≡ Some k → part_of j (xs ++ Does line ∷ []) ≡ with_line (eqb k j) line (part_of j xs)) → (ks : List ℕ) → opened_by xs ≡ ks → part_of j (Peer i ∷ (xs ++ Does line ∷ [])) ≡ with_line (eqb k j) line (part_of j (Peer i ∷ xs))
    by_opened rest [] none =
        let last : last_or (Some i) [] ≡ Some k = ap (last_or (Some i)) (sym none) ∙ e in
        let same : i ≡ k = cc in
        part_of_last xs j i line none ∙ ap (λ m. with_line (eqb m j) line (part_of j (Peer i ∷ xs))) same
    by_opened rest (l ∷ ls) some =
        let filled : 0 < length (opened_by xs) = omega (arith, ap length some) in
        let first = distinct_first i (opened_by xs) d in
        let last = sym (last_of_more i k (opened_by xs) filled) ∙ e in
        passed_by (eqb i j) i j k line (until_peer xs) (until_peer (xs ++ Does line ∷ [])) (part_of j xs) (part_of j (xs ++ Does line ∷ [])) refl
        (last_apart i k (opened_by xs) last first.0) (until_peer_past xs line filled) (rest first.1 last)

pub opened_add : (xs : List Item) (line : Line) → opened_by (xs ++ Does line ∷ []) ≡ opened_by xs
opened_add xs line = opened_by-append xs (Does line ∷ []) ∙ append-nil (opened_by xs)

pub sum_add : (xs : List Item) (line : Line) → sum_by size_of (xs ++ Does line ∷ []) ≡ sum_by size_of xs + op_size line.op
sum_add xs line = sum_by-append size_of xs (Does line ∷ []) ∙ ap (λ m. sum_by size_of xs + m) (zero-add (op_size line.op))

-- All parts: no part changes at `peer K`, and one at a line.
pub parts_of_open : (n k : ℕ) (xs : List Item) → parts_of n (xs ++ Peer k ∷ []) ≡ parts_of n xs
parts_of_open n k xs = same_lists _ _ (length-map-range_with_len (λ j. part_of j (xs ++ Peer k ∷ [])) 0 n ∙ sym (length-map-range_with_len (λ j. part_of j xs) 0 n)) (λ j d h.
    let below : j < n = omega (arith, length-map-range_with_len (λ j. part_of j (xs ++ Peer k ∷ [])) 0 n) in
    get_or-map-range_with_len (λ j. part_of j (xs ++ Peer k ∷ [])) 0 n j j d below (omega arith)
    ∙ (part_of_open xs j k ∙ sym (get_or-map-range_with_len (λ j. part_of j xs) 0 n j j d below (omega arith))))

set_line : (b : Bool) (n k j : ℕ) (xs : List Item) (line : Line) (d : List Line) → eqb k j ≡ b → k < n → j < n → with_line b line (part_of j xs) ≡ get_or (set (parts_of n xs) k (part_of k xs ++ line ∷ [])) j d
set_line true n k j xs line d e within below =
    let same : j ≡ k = grind (arith, nat_tests) in
    let long : k < length (parts_of n xs) = omega (arith, length-map-range_with_len (λ i. part_of i xs) 0 n) in
    ap (λ i. part_of i xs ++ line ∷ []) same ∙ sym (get_or-set_at (parts_of n xs) k j (part_of k xs ++ line ∷ []) d same long)
set_line false n k j xs line d e within below =
    let other : j ≢ k = grind (arith, nat_tests) in
    sym (get_or-set_other (parts_of n xs) k j (part_of k xs ++ line ∷ []) d other ∙ get_or-map-range_with_len (λ i. part_of i xs) 0 n j j d below (omega arith))

pub parts_of_add : (n k : ℕ) (xs : List Item) (line : Line) → k < n → is_distinct (opened_by xs) ≡ true → last_or None (opened_by xs) ≡ Some k → parts_of n (xs ++ Does line ∷ []) ≡ set (parts_of n xs) k (part_of k xs ++ line ∷ [])
parts_of_add n k xs line within d e =
    let old = parts_of n xs in
    let new_len = length-map-range_with_len (λ j. part_of j (xs ++ Does line ∷ [])) 0 n in
    let old_len = length-map-range_with_len (λ j. part_of j xs) 0 n in
    same_lists (parts_of n (xs ++ Does line ∷ [])) (set old k (part_of k xs ++ line ∷ [])) (new_len ∙ sym (length-set old k (part_of k xs ++ line ∷ []) ∙ old_len)) (λ j d' h.
    let below : j < n = omega arith in
    get_or-map-range_with_len (λ j. part_of j (xs ++ Does line ∷ [])) 0 n j j d' below (omega arith)
    ∙ (part_of_add xs j k line d e ∙ set_line (eqb k j) n k j xs line d' refl within below))
