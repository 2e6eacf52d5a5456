-- The bits of what all peers told.
use Rattle.std.proofs.Common.{◌≡◌, ◌/◌, ◌%◌, ℕ, max, Bool, true, false, cond, eqb, List, [], ◌∷◌, map, sym, refl, ap, ◌∙◌, arith}
use Rattle.std.specs.Prelude.{bit_or, not, ◌&&◌, ◌||◌, fold}
use Rattle.std.specs.Int.{bit_at}
use Rattle.std.specs.List.{list_all, list_any}
use Rattle.std.proofs.lemmas.Nat.Bits.{bit_at_or, bit_at_lowest}
use Rattle.std.proofs.lemmas.Map.Views.{exact_unsigned_eq as eqb_is}
use Rattle.fab_model.specs.Peers.{is_finished}
use Rattle.fab_peer.specs.Turns.{actor_of}
use Rattle.fab_meeting.specs.Accounts.{together}
use Rattle.fab_rounds.specs.Rounds.{Between, GoesOn}
use Rattle.fab_rounds.specs.Words.{word_of, told_by, goes}

abbrev one_if : Bool → ℕ
one_if b = cond b 1 0

or_max : (a b : Bool) → one_if (a || b) ≡ max (one_if a) (one_if b)
or_max true true = refl
or_max true false = refl
or_max false true = refl
or_max false false = refl

-- a bit of what all told: whether some told it
fold_bit : {X : Type 0} (g : X → ℕ) (h : X → Bool) (i : ℕ) → ((x : X) → bit_at (g x) i ≡ one_if (h x)) → (xs : List X) (a : ℕ) → bit_at (fold bit_or a (map g xs)) i ≡ max (bit_at a i) (one_if (list_any h xs))
fold_bit g h i is [] a = let l : ℕ = bit_at a i in let e : l ≡ max l 0 = omega arith in e
fold_bit g h i is (x ∷ xs) a =
    let rest = fold_bit g h i is xs (bit_or a (g x)) in let here = bit_at_or a (g x) i in let own = is x in let both = or_max (h x) (list_any h xs) in
    let l : ℕ = bit_at a i in let m : ℕ = bit_at (bit_or a (g x)) i in let p : ℕ = one_if (h x) in let q : ℕ = one_if (list_any h xs) in
    let rest' : bit_at (fold bit_or a (map g (x ∷ xs))) i ≡ max m q = rest in let here' : m ≡ max l (bit_at (g x) i) = here in let own' : bit_at (g x) i ≡ p = own in
    let both' : one_if (list_any h (x ∷ xs)) ≡ max p q = both in
    rest' ∙ (let e : max m q ≡ max l (max p q) = omega arith in e) ∙ ap (max l) (sym both')

some_bit : {X : Type 0} (g : X → ℕ) (h : X → Bool) (i : ℕ) → ((x : X) → bit_at (g x) i ≡ one_if (h x)) → (xs : List X) → bit_at (together (map g xs)) i ≡ one_if (list_any h xs)
some_bit g h i is xs = let f = fold_bit g h i is xs 0 in let none : bit_at 0 i ≡ 0 = Rattle.std.proofs.lemmas.Nat.Bits.bit_at-zero i in omega arith

-- ---- a peer's word

word_moved : (m f l : Bool) → bit_at (word_of m f l) 0 ≡ one_if m
word_moved true true true = refl
word_moved true true false = refl
word_moved true false true = refl
word_moved true false false = refl
word_moved false true true = refl
word_moved false true false = refl
word_moved false false true = refl
word_moved false false false = refl

word_left : (m f l : Bool) → bit_at (word_of m f l) 1 ≡ one_if (not f)
word_left true true true = refl
word_left true true false = refl
word_left true false true = refl
word_left true false false = refl
word_left false true true = refl
word_left false true false = refl
word_left false false true = refl
word_left false false false = refl

word_failed : (m f l : Bool) → bit_at (word_of m f l) 2 ≡ one_if l
word_failed true true true = refl
word_failed true true false = refl
word_failed true false true = refl
word_failed true false false = refl
word_failed false true true = refl
word_failed false true false = refl
word_failed false false true = refl
word_failed false false false = refl

-- ---- the answer

three_of : (a b c : Bool) → (a && b && c) ≡ true → (a ≡ true) × (b ≡ true) × (c ≡ true)
three_of true true true e = (refl, refl, refl)
three_of true true false e = absurd (cc (e))
three_of true false c e = absurd (cc (e))
three_of false b c e = absurd (cc (e))

is_true : (b : Bool) → one_if b ≡ 1 → b ≡ true
is_true true e = refl
is_true false e = absurd (omega (arith, e))

is_false : (b : Bool) → one_if b ≡ 0 → b ≡ false
is_false true e = absurd (omega (arith, e))
is_false false e = refl

-- where all go on, some turn moved something, some lines are left, and memory ran out in none
words_go : {X : Type 0} (m f l : X → Bool) (xs : List X) → goes (together (map (λ x. word_of (m x) (f x) (l x)) xs)) ≡ true → (list_any m xs ≡ true) × (list_any (λ x. not (f x)) xs ≡ true) × (list_any l xs ≡ false)
words_go m f l xs e =
    let all : ℕ = together (map (λ x. word_of (m x) (f x) (l x)) xs) in
    let three = three_of (eqb (all % 2) 1) (eqb (all / 2 % 2) 1) (eqb (all / 4 % 2) 0) e in
    let b0 : bit_at all 0 ≡ one_if (list_any m xs) = some_bit (λ x. word_of (m x) (f x) (l x)) m 0 (λ x. word_moved (m x) (f x) (l x)) xs in
    let b1 : all / 2 % 2 ≡ one_if (list_any (λ x. not (f x)) xs) = some_bit (λ x. word_of (m x) (f x) (l x)) (λ x. not (f x)) 1 (λ x. word_left (m x) (f x) (l x)) xs in
    let b2 : all / 4 % 2 ≡ one_if (list_any l xs) = some_bit (λ x. word_of (m x) (f x) (l x)) l 2 (λ x. word_failed (m x) (f x) (l x)) xs in
    let low : bit_at all 0 ≡ 1 = bit_at_lowest all ∙ eqb_is (all % 2) 1 three.0 in (
      is_true (list_any m xs) (sym b0 ∙ low),
      is_true (list_any (λ x. not (f x)) xs) (sym b1 ∙ eqb_is (all / 2 % 2) 1 three.1),
      is_false (list_any l xs) (sym b2 ∙ eqb_is (all / 4 % 2) 0 three.2),
    )

-- ---- all, and some not

not_each : (a b : Bool) → (a && not b) ≡ not (not a || b)
not_each true b = refl
not_each false b = refl

all_is : {X : Type 0} (f : X → Bool) (xs : List X) → list_all f xs ≡ not (list_any (λ x. not (f x)) xs)
all_is f [] = refl
all_is f (x ∷ xs) = ap (λ b. f x && b) (all_is f xs) ∙ not_each (f x) (list_any (λ y. not (f y)) xs)

not_some : (a b : Bool) → (not a && not b) ≡ not (a || b)
not_some true b = refl
not_some false b = refl

none_is : {X : Type 0} (f : X → Bool) (xs : List X) → list_all (λ x. not (f x)) xs ≡ not (list_any f xs)
none_is f [] = refl
none_is f (x ∷ xs) = ap (λ b. not (f x) && b) (none_is f xs) ∙ not_some (f x) (list_any f xs)

pub told_go : {Home : Type 0} (peers : List (Between Home)) → goes (together (map (λ p. told_by p) peers)) ≡ true → GoesOn peers
told_go peers e =
    let w = words_go (λ p. p.moved) (λ p. is_finished (actor_of p.peer)) (λ p. p.failed) peers e in
    record { well = w.2; moving = none_is (λ p. p.moved) peers ∙ ap not w.0; going = all_is (λ p. is_finished (actor_of p.peer)) peers ∙ ap not w.1 }
