-- The parts of the peers, and the items that are written for them.
use Rattle.std.proofs.Common.{◌≡◌, ℕ, zero, suc, ◌+◌, ◌<◌, ◌≤◌, Bool, true, false, cond, eqb, List, [], ◌∷◌, ◌++◌, length, map, sym, ap, subst, ◌∙◌, refl, arith, length-append}
use Rattle.std.specs.List.{sum_by, range_with_len}
use Rattle.std.proofs.lemmas.Bool.Decides.{nat_tests}
use Rattle.std.proofs.lemmas.List.Sums.{sum_by-cons}
use Rattle.fab_base.specs.declared.caps.Api.{Api}
use Rattle.fab_base.specs.declared.script.Line.{Line}
use Rattle.fab_grammar.specs.declared.items.Item.{Item}
use Rattle.fab_grammar.specs.declared.items.Item.TheVariants.{Peer, Does}
use Rattle.fab_grammar.specs.Before.{until_peer, part_of, parts_of, size_of}
use Rattle.fab_grammar.specs.Lines.{op_size}
use Rattle.fab_grammar.specs.Versions.{most_bytes, most_in_all}
use Rattle.fab_spell.specs.Again.{Again}
use Rattle.fab_spell.specs.Print.{part_items, items_of, without_number}
use Rattle.fab_spell.proofs.Peers.{ItemsFit, plain}

-- ---- what the parts weigh: a `peer` so much, and each line by its weight
abbrev pub Weight : Type 0
Weight = Line → ℕ

abbrev pub lines_weight : Weight → List Line → ℕ
lines_weight w [] = 0
lines_weight w (line ∷ lines) = w line + lines_weight w lines

abbrev pub part_weight : ℕ → Weight → List Line → ℕ
part_weight p w [] = 0
part_weight p w (line ∷ lines) = p + (w line + lines_weight w lines)

abbrev pub item_weight : ℕ → Weight → Item → ℕ
item_weight p w (Peer k) = p
item_weight p w (Does line) = w line

abbrev pub items_weight : ℕ → Weight → List Item → ℕ
items_weight p w [] = 0
items_weight p w (item ∷ items) = item_weight p w item + items_weight p w items

-- of the parts of n peers from i on
abbrev pub total : ℕ → Weight → (ℕ → List Line) → ℕ → ℕ → ℕ
total p w part i zero = 0
total p w part i (suc n) = part_weight p w (part i) + total p w part (i + 1) n

total_none : (p : ℕ) (w : Weight) (i n : ℕ) → total p w (λ k. []) i n ≡ 0
total_none p w i zero = refl
total_none p w i (suc n) = omega (arith, total_none p w (i + 1) n)

-- the parts, where that of j is another
abbrev replaced : ℕ → List Line → (ℕ → List Line) → ℕ → List Line
replaced j lines part k = cond (eqb j k) lines (part k)

not_replaced : (j : ℕ) (lines : List Line) (part : ℕ → List Line) (i : ℕ) → j < i → replaced j lines part i ≡ part i
not_replaced j lines part i h =
    let other : eqb j i ≡ false = grind (arith, nat_tests) in
    ap (λ b. cond b lines (part i)) other

total_past : (p : ℕ) (w : Weight) (j : ℕ) (lines : List Line) (part : ℕ → List Line) (i n : ℕ) → j < i → total p w (replaced j lines part) i n ≡ total p w part i n
total_past p w j lines part i zero h = refl
total_past p w j lines part i (suc n) h =
    let here : part_weight p w (replaced j lines part i) ≡ part_weight p w (part i) = ap (part_weight p w) (not_replaced j lines part i h) in
    let next : j < i + 1 = omega arith in
    omega (arith, here, total_past p w j lines part (i + 1) n next)

either_weight : (p : ℕ) (w : Weight) (lines part : List Line) (b : Bool) (rest old : ℕ) → (b ≡ true → rest ≡ old) → rest ≤ part_weight p w lines + old → part_weight p w (cond b lines part) + rest ≤ part_weight p w lines + (part_weight p w part + old)
either_weight p w lines part true rest old same le =
    let e = same refl in
    omega arith
either_weight p w lines part false rest old same le = omega arith

-- one part weighs no more than the lines that are put in its place
total_replaced : (p : ℕ) (w : Weight) (j : ℕ) (lines : List Line) (part : ℕ → List Line) (i n : ℕ) → total p w (replaced j lines part) i n ≤ part_weight p w lines + total p w part i n
total_replaced p w j lines part i zero = omega arith
total_replaced p w j lines part i (suc n) =
    either_weight p w lines (part i) (eqb j i) (total p w (replaced j lines part) (i + 1) n) (total p w part (i + 1) n) (λ e. total_past p w j lines part (i + 1) n (past e)) (total_replaced p w j lines part (i + 1) n)
  where
    past : eqb j i ≡ true → j < i + 1
    past e = grind (arith, nat_tests)

part_lines : (p : ℕ) (w : Weight) (lines : List Line) → part_weight p w lines ≤ p + lines_weight w lines
part_lines p w [] = omega arith
part_lines p w (line ∷ lines) = omega arith

-- the parts weigh no more than all items
weighed : (p : ℕ) (w : Weight) (n : ℕ) (items : List Item) → total p w (λ k. part_of k items) 0 n + lines_weight w (until_peer items) ≤ items_weight p w items
weighed p w n [] = omega (arith, total_none p w 0 n)
weighed p w n (Does line ∷ items) = omega (arith, weighed p w n items)
weighed p w n (Peer j ∷ items) =
    omega (arith, weighed p w n items, total_replaced p w j (until_peer items) (λ k. part_of k items) 0 n, part_lines p w (until_peer items))

pub parts_weigh : (p : ℕ) (w : Weight) (n : ℕ) (items : List Item) → total p w (λ k. part_of k items) 0 n ≤ items_weight p w items
parts_weigh p w n items = omega (arith, weighed p w n items)

-- ---- how many items are written, and how large they are
abbrev pub one : Weight
one line = 1

abbrev pub line_size : Weight
line_size line = op_size line.op

items_counted : (items : List Item) → items_weight 1 one items ≡ length items
items_counted [] = refl
items_counted (Peer k ∷ items) = omega (arith, items_counted items)
items_counted (Does line ∷ items) = omega (arith, items_counted items)

items_sized : (items : List Item) → items_weight 0 line_size items ≡ sum_by size_of items
items_sized [] = refl
items_sized (Peer k ∷ items) = omega (arith, items_sized items, sum_by-cons size_of (Peer k) items)
items_sized (Does line ∷ items) = omega (arith, items_sized items, sum_by-cons size_of (Does line) items)

lines_counted : (lines : List Line) → length (map Does lines) ≡ lines_weight one lines
lines_counted [] = refl
lines_counted (line ∷ lines) = omega (arith, lines_counted lines)

part_counted : (k : ℕ) (lines : List Line) → length (part_items k lines) ≡ part_weight 1 one lines
part_counted k [] = refl
part_counted k (line ∷ lines) = omega (arith, lines_counted lines)

parts_counted : (part : ℕ → List Line) (k i n : ℕ) → length (items_of k (map part (range_with_len i n))) ≡ total 1 one part i n
parts_counted part k i zero = refl
parts_counted part k i (suc n) =
    let rest = map part (range_with_len (i + 1) n) in
    omega (arith, length-append (part_items k (part i)) (items_of (k + 1) rest), part_counted k (part i), parts_counted part (k + 1) (i + 1) n)

pub written_count : (n : ℕ) (items : List Item) → length (items_of 0 (parts_of n items)) ≤ length items
written_count n items = omega (arith, parts_counted (λ k. part_of k items) 0 0 n, parts_weigh 1 one n items, items_counted items)

-- the size of all lines of the parts
abbrev pub parts_size : List (List Line) → ℕ
parts_size [] = 0
parts_size (part ∷ parts) = lines_weight line_size part + parts_size parts

part_sized : (lines : List Line) → part_weight 0 line_size lines ≡ lines_weight line_size lines
part_sized [] = refl
part_sized (line ∷ lines) = omega arith

parts_sized : (part : ℕ → List Line) (i n : ℕ) → parts_size (map part (range_with_len i n)) ≡ total 0 line_size part i n
parts_sized part i zero = refl
parts_sized part i (suc n) = omega (arith, part_sized (part i), parts_sized part (i + 1) n)

pub written_size : (n : ℕ) (items : List Item) → parts_size (parts_of n items) ≤ sum_by size_of items
written_size n items = omega (arith, parts_sized (λ k. part_of k items) 0 n, parts_weigh 0 line_size n items, items_sized items)

-- ---- the rules hold of the items that are written
abbrev pub LinesAgain : Api → List Line → Type 0
LinesAgain api [] = Unit {0}
LinesAgain api (line ∷ lines) = Again (most_bytes api) line.op × LinesAgain api lines

abbrev pub PartsAgain : Api → List (List Line) → Type 0
PartsAgain api [] = Unit {0}
PartsAgain api (part ∷ parts) = LinesAgain api part × PartsAgain api parts

lines_fit : (api : Api) (n low size whole : ℕ) (lines : List Line) (items : List Item) → 0 < low → LinesAgain api lines → size + lines_weight line_size lines ≡ whole → whole ≤ most_in_all api → ItemsFit api n low whole items → ItemsFit api n low size (map Does lines ++ items)
lines_fit api n low size whole [] items some a e few f =
    let same : whole ≡ size = omega arith in
    subst (λ s. ItemsFit api n low s items) same f
lines_fit api n low size whole (line ∷ lines) items some a e few f =
    (some, a.0, omega arith, lines_fit api n low (size + op_size line.op) whole lines items some a.1 (omega arith) few f)

parts_fit : (api : Api) (n low size k : ℕ) (parts : List (List Line)) → low ≤ k → k + length parts ≤ n → PartsAgain api parts → size + parts_size parts ≤ most_in_all api → ItemsFit api n low size (items_of k parts)
parts_fit api n low size k [] h below a few = tt
parts_fit api n low size k ([] ∷ parts) h below a few = parts_fit api n low size (k + 1) parts (omega arith) (omega arith) a.1 (omega arith)
parts_fit api n low size k ((line ∷ lines) ∷ parts) h below a few =
    let part = line ∷ lines in
    let whole = size + lines_weight line_size part in
    let some : 0 < k + 1 = omega arith in
    let here : k < n = omega arith in
    let next : k + 1 + length parts ≤ n = omega arith in
    let fits : whole ≤ most_in_all api = omega arith in
    let rest : whole + parts_size parts ≤ most_in_all api = omega arith in
    (h, here, lines_fit api n (k + 1) size whole part (items_of (k + 1) parts) some a.0 refl fits (parts_fit api n (k + 1) whole (k + 1) parts (omega arith) next a.1 rest))

pub items_fit : (api : Api) (n : ℕ) (parts : List (List Line)) → length parts ≤ n → PartsAgain api parts → parts_size parts ≤ most_in_all api → ItemsFit api n 0 0 (items_of 0 parts)
items_fit api n parts few a little = parts_fit api n 0 0 0 parts (omega arith) (omega arith) a (omega arith)

-- ---- the items that are written have these parts
until_items : (k : ℕ) (parts : List (List Line)) → until_peer (items_of k parts) ≡ []
until_items k [] = refl
until_items k ([] ∷ parts) = until_items (k + 1) parts
until_items k ((line ∷ lines) ∷ parts) = refl

until_lines : (lines : List Line) (items : List Item) → until_peer items ≡ [] → until_peer (map Does lines ++ items) ≡ lines
until_lines [] items e = e
until_lines (line ∷ lines) items e = ap (λ l. line ∷ l) (until_lines lines items e)

past_lines : (k : ℕ) (lines : List Line) (items : List Item) → part_of k (map Does lines ++ items) ≡ part_of k items
past_lines k [] items = refl
past_lines k (line ∷ lines) items = past_lines k lines items

-- the part of another peer
past_part : (k j : ℕ) (part : List Line) (items : List Item) → eqb j k ≡ false → part_of k (part_items j part ++ items) ≡ part_of k items
past_part k j [] items e = refl
past_part k j (line ∷ lines) items e = ap (λ b. cond b (line ∷ until_peer (map Does lines ++ items)) (part_of k (map Does lines ++ items))) e ∙ past_lines k lines items

part_below : (k j : ℕ) (parts : List (List Line)) → k < j → part_of k (items_of j parts) ≡ []
part_below k j [] h = refl
part_below k j (part ∷ parts) h = past_part k j part (items_of (j + 1) parts) other ∙ part_below k (j + 1) parts (omega arith)
  where
    other : eqb j k ≡ false
    other = grind (arith, nat_tests)

eqb_same : (k : ℕ) → eqb k k ≡ true
eqb_same k = grind (arith, nat_tests)

part_here : (k : ℕ) (part : List Line) (parts : List (List Line)) → part_of k (items_of k (part ∷ parts)) ≡ part
part_here k [] parts = part_below k (k + 1) parts (omega arith)
part_here k (line ∷ lines) parts =
    let items = items_of (k + 1) parts in
    ap (λ b. cond b (line ∷ until_peer (map Does lines ++ items)) (part_of k (map Does lines ++ items))) (eqb_same k)
    ∙ ap (λ l. line ∷ l) (until_lines lines items (until_items (k + 1) parts))

range_same : (f g : ℕ → List Line) (i n : ℕ) → ((k : ℕ) → i ≤ k → f k ≡ g k) → map f (range_with_len i n) ≡ map g (range_with_len i n)
range_same f g i zero e = refl
range_same f g i (suc n) e =
    let here : f i ≡ g i = e i (omega arith) in
    ap (λ l. l ∷ map f (range_with_len (i + 1) n)) here ∙ ap (λ ls. g i ∷ ls) (range_same f g (i + 1) n (λ k h. e k (omega arith)))

parts_back : (i : ℕ) (parts : List (List Line)) → map (λ k. part_of k (items_of i parts)) (range_with_len i (length parts)) ≡ parts
parts_back i [] = refl
parts_back i (part ∷ parts) =
    ap (λ l. l ∷ map (λ k. part_of k (items_of i (part ∷ parts))) (range_with_len (i + 1) (length parts))) (part_here i part parts)
    ∙ ap (λ ls. part ∷ ls) (range_same (λ k. part_of k (items_of i (part ∷ parts))) (λ k. part_of k (items_of (i + 1) parts)) (i + 1) (length parts) (λ k h. past_part k i part (items_of (i + 1) parts) (other k h))
    ∙ parts_back (i + 1) parts)
  where
    other : (k : ℕ) → i + 1 ≤ k → eqb i k ≡ false
    other k h = grind (arith, nat_tests)

pub parts_written : (n : ℕ) (parts : List (List Line)) → length parts ≡ n → parts_of n (items_of 0 parts) ≡ parts
parts_written n parts e = ap (λ m. parts_of m (items_of 0 parts)) (sym e) ∙ parts_back 0 parts

-- ---- without the numbers of lines
until_plain : (items : List Item) → map without_number (until_peer items) ≡ until_peer (map plain items)
until_plain [] = refl
until_plain (Peer k ∷ items) = refl
until_plain (Does line ∷ items) = ap (λ l. without_number line ∷ l) (until_plain items)

either_plain : (b : Bool) (x y u v : List Line) → map without_number x ≡ u → map without_number y ≡ v → map without_number (cond b x y) ≡ cond b u v
either_plain true x y u v e f = e
either_plain false x y u v e f = f

part_plain : (k : ℕ) (items : List Item) → map without_number (part_of k items) ≡ part_of k (map plain items)
part_plain k [] = refl
part_plain k (Peer j ∷ items) = either_plain (eqb j k) (until_peer items) (part_of k items) (until_peer (map plain items)) (part_of k (map plain items)) (until_plain items) (part_plain k items)
part_plain k (Does line ∷ items) = part_plain k items

range_plain : (items : List Item) (i n : ℕ) → map (map without_number) (map (λ k. part_of k items) (range_with_len i n)) ≡ map (λ k. part_of k (map plain items)) (range_with_len i n)
range_plain items i zero = refl
range_plain items i (suc n) =
    ap (λ l. l ∷ map (map without_number) (map (λ k. part_of k items) (range_with_len (i + 1) n))) (part_plain i items)
    ∙ ap (λ ls. part_of i (map plain items) ∷ ls) (range_plain items (i + 1) n)

-- Items that are the same up to the numbers of lines have the same parts up to them.
pub parts_plain : (n : ℕ) (xs ys : List Item) → map plain xs ≡ map plain ys → map (map without_number) (parts_of n xs) ≡ map (map without_number) (parts_of n ys)
parts_plain n xs ys e = range_plain xs 0 n ∙ (ap (λ items. parts_of n items) e ∙ sym (range_plain ys 0 n))
