-- That each kind of step keeps the rule.
use Rattle.std.proofs.Common.{Bool, cond, eq-eqb, ne_eqb, ◌≡◌, ◌≢◌, ℕ, zero, suc, ◌+◌, ◌*◌, ◌/◌, ◌%◌, ◌^◌, ◌<◌, ◌≤◌, inl, inr, ⊎_elim, List, [], ◌∷◌, ◌++◌, length, take, drop, get_or, set, replicate, Some, sym, refl, ap, ◌∙◌, subst, arith, length-set, get_or-set_same, get_or-set_other}
use mathlib.Core.Logic.{dite}
use mathlib.Core.Option.{some, none, some-ne-none}
use native.Mathlib.Decide.{ℕ_discrete}
use lib.ListN.{get_elem?}
use Rattle.std.specs.Prelude.{sum_by, slice_get}
use Rattle.std.specs.List.{All}
use Rattle.std.proofs.lemmas.List.{set-get_or, length-replicate, get_or-map, length-map, same_lists, get_or_default}
use Rattle.std.proofs.lemmas.List.Sums.{sum_by-cons, sum_by-append, sum_by_push, get_or-le-sum_by as held_weighs}
use Rattle.std.proofs.lemmas.List.Elements.{All-append, All-take, All-drop, All-nil}
use Rattle.atomic_table.specs.Table.{State, step, keeps, Allows, Splits, Joins, opening}
use Rattle.atomic_table.proofs.Lists.{at_set, set_else, set_again}
use Rattle.fab_base.proofs.Lists.{prefix_get as kept, get_last as last_one}
use Rattle.fab_base.proofs.Places.{at_end, sum_set}
use Rattle.fab_meeting.specs.declared.kinds.Account.{Account}
use Rattle.fab_meeting.specs.declared.kinds.View.{View}
use Rattle.fab_meeting.specs.Accounts.{new_account, heard_of, spoke, heard_word, code, looked, fresh_from, everyone, nobody, only_first, but_first, both, first_of, sole}
use Rattle.fab_meeting.specs.Rule.{IsShown, Sound, one_at, seats_at, Ruled}
use Rattle.fab_meeting.specs.Plays.{Sat, says, looks, learns}
use Rattle.fab_meeting.specs.Gather.{all_said, AreInOrder, IsHeard}
use Rattle.fab_meeting.proofs.Rows.{old_or_last}

abbrev pub St : Type 0
St = State (Unit {0}) View

-- ---- sums

module _ {A : Type 0} (f : A → ℕ) where
  one_weighs : (l : List A) (j : ℕ) (b : A) → get_elem? l j ≡ some b → f b ≤ sum_by f l
  one_weighs [] j b e = absurd (some-ne-none b (sym e))
  one_weighs (x ∷ xs) zero b e = let s = sum_by-cons f x xs in let t : x ≡ b = mathlib.Core.Option.some-injective x b e in let h : f x ≡ f b = ap f t in omega arith
  one_weighs (x ∷ xs) (suc j) b e = let s = sum_by-cons f x xs in let h = one_weighs xs j b e in omega arith

  -- two members weigh no more than all
  two_weigh : (l : List A) (i j : ℕ) (a b : A) → i ≢ j → get_elem? l i ≡ some a → get_elem? l j ≡ some b → f a + f b ≤ sum_by f l
  two_weigh [] i j a b ne e g = absurd (some-ne-none a (sym e))
  two_weigh (x ∷ xs) zero zero a b ne e g = absurd (ne refl)
  two_weigh (x ∷ xs) zero (suc j) a b ne e g = let s = sum_by-cons f x xs in let t : f x ≡ f a = ap f (mathlib.Core.Option.some-injective x a e) in let h = one_weighs xs j b g in omega arith
  two_weigh (x ∷ xs) (suc i) zero a b ne e g = let s = sum_by-cons f x xs in let t : f x ≡ f b = ap f (mathlib.Core.Option.some-injective x b g) in let h = one_weighs xs i a e in omega arith
  two_weigh (x ∷ xs) (suc i) (suc j) a b ne e g = let s = sum_by-cons f x xs in let h = two_weigh xs i j a b (λ q. ne (ap suc q)) e g in omega arith

-- ---- accounts and what was said

one_is : (q : ℕ) (a : Account) → a.place ≡ q → one_at q a ≡ 1
one_is q a e = ap (λ (b : Bool). cond b 1 0) (eq-eqb a.place q e)

-- what was said stays
abbrev Grows : List (List ℕ) → List (List ℕ) → Type 0
Grows old new = (q n w : ℕ) → slice_get (get_or old q []) n ≡ Some w → slice_get (get_or new q []) n ≡ Some w

one_sound : (members : ℕ) (past : List (List ℕ)) (a : Account) → Sound members past a → All (Sound members past) (a ∷ [])
one_sound members past a ok zero d h = ok
one_sound members past a ok (suc j) d h = absurd (omega arith)

own : (k : ℕ) (s : St) (r : Ruled k s) (id : ℕ) (a : Account) → get_elem? s.views id ≡ some (sole a) → Sound k r.past a
own k s r id a at = r.sound id (sole a) at 0 a (omega arith)

-- ---- a member says a word
module _ (k : ℕ) (s : St) (r : Ruled k s) (id : ℕ) (a : Account) (at : get_elem? s.views id ≡ some (sole a)) (b w : ℕ) (low : b < 2) (small : w < 2 ^ 32) where
  abbrev longer : List ℕ
  longer = a.said ++ w ∷ []

  abbrev past : List (List ℕ)
  past = set r.past a.place longer

  abbrev index : ℕ
  index = a.place * 8 + b

  abbrev shows : ℕ
  shows = code (length a.said) w

  mine : Sound k r.past a
  mine = own k s r id a at

  here : get_or past a.place [] ≡ longer
  here = get_or-set_same r.past a.place longer [] (let e = r.count in let n = mine.near in omega arith)

  elsewhere : (q : ℕ) → q ≢ a.place → get_or past q [] ≡ get_or r.past q []
  elsewhere q ne = get_or-set_other r.past a.place q longer [] ne

  grows : Grows r.past past
  grows q n x e = dite (ℕ_discrete q a.place)
      (λ h. let e' : slice_get a.said n ≡ Some x = ap (λ (z : List ℕ). slice_get z n) (sym mine.said_is) ∙ ap (λ (z : ℕ). slice_get (get_or r.past z []) n) (sym h) ∙ e in
      ap (λ (z : ℕ). slice_get (get_or past z []) n) h ∙ ap (λ (z : List ℕ). slice_get z n) here ∙ kept a.said (w ∷ []) n x e')
      (λ ne. ap (λ (z : List ℕ). slice_get z n) (elsewhere q ne) ∙ e)

  after_sound : Sound k past (spoke a w)
  after_sound = record {
    members_are = mine.members_are;
    near = mine.near;
    said_is = here;
    wide = mine.wide;
    heard = λ q n x e. grows q n x (mine.heard q n x e);
  }

  other_sound : (c : Account) → c.place ≢ a.place → Sound k r.past c → Sound k past c
  other_sound c ne ok = record {
    members_are = ok.members_are;
    near = ok.near;
    said_is = elsewhere c.place ne ∙ ok.said_is;
    wide = ok.wide;
    heard = λ q n x e. grows q n x (ok.heard q n x e);
  }

  -- no other seat is of this member
  apart : (j : ℕ) (u : View) → j ≢ id → get_elem? s.views j ≡ some u → (i : ℕ) (d : Account) → i < length u.accounts → (get_or u.accounts i d).place ≢ a.place
  apart j u ne e i d h same =
      let two = two_weigh (seats_at a.place) s.views j id u (sole a) ne e at in
      let one : one_at a.place a ≡ 1 = one_is a.place a refl in
      let there : one_at a.place (get_or u.accounts i d) ≡ 1 = one_is a.place (get_or u.accounts i d) same in
      let some_there = held_weighs (one_at a.place) u.accounts i d h in
      let most = r.once a.place in
      let mine_is = sum_by-cons (one_at a.place) a [] in
      omega arith

  shown_after : (q c : ℕ) → q < k → c < 2 → IsShown (get_or past q []) (get_or (set s.words index shows) (q * 8 + c) 0)
  shown_after q c near less = dite (ℕ_discrete q a.place)
      (λ e. dite (ℕ_discrete c b)
      (λ f.
      let same : q * 8 + c ≡ index = omega arith in
      let held : get_or (set s.words index shows) index 0 ≡ shows = get_or-set_same s.words index shows 0 (let l = r.words in let n = mine.near in omega arith) in
      inr (length a.said, w, ap (λ (z : ℕ). slice_get (get_or past z []) (length a.said)) e ∙ ap (λ (z : List ℕ). slice_get z (length a.said)) here ∙ last_one a.said w, small, ap (λ (z : ℕ). get_or (set s.words index shows) z 0) same ∙ held))
      (λ ne. grown_shown q c (λ f. ne (omega arith)) (r.shown q c near less)))
      (λ ne. grown_shown q c (λ f. ne (omega arith)) (r.shown q c near less))
    where
      grown_shown : (q c : ℕ) → q * 8 + c ≢ index → IsShown (get_or r.past q []) (get_or s.words (q * 8 + c) 0) → IsShown (get_or past q []) (get_or (set s.words index shows) (q * 8 + c) 0)
      grown_shown q c ne was = let same = get_or-set_other s.words index (q * 8 + c) shows 0 ne in elim was [
        | inl zero_is ↦ inl (same ∙ zero_is)
        | inr o ↦ inr (o.0, o.1, grows q o.0 o.1 o.2, o.3, same ∙ o.4)
      ]

  pub said_rule : Ruled k record { words = set s.words index shows; homes = s.homes; views = set s.views id (sole (spoke a w)) }
  said_rule = record {
    past = past;
    count = length-set r.past a.place longer ∙ r.count;
    words = length-set s.words index shows ∙ r.words;
    shown = shown_after;
    sound = λ j u e. ⊎_elim
        (λ o. subst (λ (z : View). All (Sound k past) z.accounts) o.1 (one_sound k past (spoke a w) after_sound))
        (λ o. λ i d h. other_sound (get_or u.accounts i d) (apart j u o.0 o.1 i d h) (r.sound j u o.1 i d h))
        (at_set s.views id j (sole (spoke a w)) u e);
    once = λ q. let t = sum_set (seats_at q) s.views id (sole a) (sole (spoke a w)) at in let m = r.once q in
        let same : seats_at q (sole (spoke a w)) ≡ seats_at q (sole a) = refl in omega arith;
  }

pub says_one : (k slots id : ℕ) (m : Sat) (b w : ℕ) → m.0 ≡ sole (first_of m.0) → b < 2 → w < 2 ^ 32 → (i x : ℕ) → i ≡ (first_of m.0).place * 8 + b → x ≡ code (length (first_of m.0).said) w
    → Allows (Ruled k) slots id m i (λ _. x) (λ _. says (step slots i x 0 none) m x)
says_one k slots id m b w one low small i x i_is x_is s r wide at tiny = let a = first_of m.0 in let at' : get_elem? s.views id ≡ some (sole a) = at ∙ ap some one in
    let rest : x % 2 ^ 32 ≡ w = (let e = x_is in omega arith) in (
      sole (spoke a (x % 2 ^ 32)),
      keeps,
      tt,
      subst (λ (z : ℕ). Ruled k record { words = set s.words i x; homes = s.homes; views = set s.views id (sole (spoke a z)) }) (sym rest)
          (subst (λ (z : ℕ). Ruled k record { words = set s.words i z; homes = s.homes; views = set s.views id (sole (spoke a w)) }) (sym x_is)
          (subst (λ (z : ℕ). Ruled k record { words = set s.words z (code (length a.said) w); homes = s.homes; views = set s.views id (sole (spoke a w)) }) (sym i_is) (said_rule k s r id a at' b w low small))),
      refl,
    )

-- ---- a member looks at a place
looked_cases : (P : Account → Type 0) (a : Account) (q r : ℕ) → (r / 2 ^ 32 ≡ length (heard_of a q) + 1 → P (heard_word a q (r % 2 ^ 32))) → (r / 2 ^ 32 ≢ length (heard_of a q) + 1 → P a) → P (looked a q r)
looked_cases P a q r hit miss = dite (ℕ_discrete (r / 2 ^ 32) (length (heard_of a q) + 1))
    (λ e. subst (λ (b : Bool). P (cond b (heard_word a q (r % 2 ^ 32)) a)) (sym (eq-eqb (r / 2 ^ 32) (length (heard_of a q) + 1) e)) (hit e))
    (λ ne. subst (λ (b : Bool). P (cond b (heard_word a q (r % 2 ^ 32)) a)) (sym (ne_eqb (r / 2 ^ 32) (length (heard_of a q) + 1) ne)) (miss ne))

-- a place that shows a meeting's number shows the word of that meeting
shown_word : (said : List ℕ) (x n : ℕ) → IsShown said x → x / 2 ^ 32 ≡ n + 1 → slice_get said n ≡ Some (x % 2 ^ 32)
shown_word said x n shown number = elim shown [
  | inl nothing ↦ absurd (omega arith)
  | inr o ↦ (
      let small : o.1 < 2 ^ 32 = o.3 in let is : x ≡ code o.0 o.1 = o.4 in
      let which : o.0 ≡ n = omega arith in let rest : x % 2 ^ 32 ≡ o.1 = omega arith in
      ap (slice_get said) (sym which) ∙ o.2 ∙ ap Some (sym rest))
]

module _ (k : ℕ) (s : St) (r : Ruled k s) (id : ℕ) (a : Account) (at : get_elem? s.views id ≡ some (sole a)) (q b : ℕ) (near : q < k) (low : b < 2) where
  abbrev found : ℕ
  found = get_or s.words (q * 8 + b) 0

  abbrev after : Account
  after = looked a q found

  knows : Sound k r.past a
  knows = own k s r id a at

  heard_sound : found / 2 ^ 32 ≡ length (heard_of a q) + 1 → Sound k r.past (heard_word a q (found % 2 ^ 32))
  heard_sound e = record {
    members_are = knows.members_are;
    near = knows.near;
    said_is = knows.said_is;
    wide = length-set a.heard q (heard_of a q ++ (found % 2 ^ 32) ∷ []) ∙ knows.wide;
    heard = λ p n x is. dite (ℕ_discrete p q)
        (λ same.
        let new : get_or (set a.heard q (heard_of a q ++ (found % 2 ^ 32) ∷ [])) q [] ≡ heard_of a q ++ (found % 2 ^ 32) ∷ [] = get_or-set_same a.heard q (heard_of a q ++ (found % 2 ^ 32) ∷ []) [] (let l = knows.wide in omega arith) in
        let is' : slice_get (heard_of a q ++ (found % 2 ^ 32) ∷ []) n ≡ Some x = ap (λ (z : List ℕ). slice_get z n) (sym new) ∙ ap (λ (z : ℕ). slice_get (get_or (set a.heard q (heard_of a q ++ (found % 2 ^ 32) ∷ [])) z []) n) (sym same) ∙ is in
        ap (λ (z : ℕ). slice_get (get_or r.past z []) n) same ∙ elim (old_or_last (heard_of a q) (found % 2 ^ 32) x n is') [
          | inl old ↦ knows.heard q n x old
          | inr new_one ↦ ap (slice_get (get_or r.past q [])) new_one.0 ∙ shown_word (get_or r.past q []) found (length (heard_of a q)) (r.shown q b near low) e ∙ ap Some new_one.1
        ])
        (λ other. knows.heard p n x (ap (λ (z : List ℕ). slice_get z n) (sym (get_or-set_other a.heard q p (heard_of a q ++ (found % 2 ^ 32) ∷ []) [] other)) ∙ is));
  }

  after_looked : Sound k r.past after
  after_looked = looked_cases (Sound k r.past) a q found heard_sound (λ _. knows)

  pub looked_rule : Ruled k record { words = s.words; homes = s.homes; views = set s.views id (sole (looked a q (get_or s.words (q * 8 + b) 0))) }
  looked_rule = record {
    past = r.past;
    count = r.count;
    words = r.words;
    shown = r.shown;
    sound = λ j u e. ⊎_elim
        (λ o. subst (λ (z : View). All (Sound k r.past) z.accounts) o.1 (one_sound k r.past after after_looked))
        (λ o. r.sound j u o.1)
        (at_set s.views id j (sole after) u e);
    once = λ p. let t = sum_set (seats_at p) s.views id (sole a) (sole after) at in let m = r.once p in
        let same : seats_at p (sole after) ≡ seats_at p (sole a) = looked_cases (λ (z : Account). seats_at p (sole z) ≡ seats_at p (sole a)) a q found (λ _. refl) (λ _. refl) in omega arith;
  }

pub looks_one : (k slots id : ℕ) (m : Sat) (q b : ℕ) → m.0 ≡ sole (first_of m.0) → q < (first_of m.0).members → b < 2 → (i : ℕ) → i ≡ q * 8 + b
    → Allows (Ruled k) slots id m i (λ v. v) (looks (step slots i 0 0 none) m)
looks_one k slots id m q b one near low i i_is s r wide at tiny = let a = first_of m.0 in let x : ℕ = get_or s.words i 0 in let at' : get_elem? s.views id ≡ some (sole a) = at ∙ ap some one in
    let ok = own k s r id a at' in let near' : q < k = (let e = ok.members_are in omega arith) in
    let which : i / 8 ≡ q = omega arith in
    let ruled : Ruled k record { words = s.words; homes = s.homes; views = set s.views id (sole (looked a (i / 8) x)) } =
    subst (λ (z : ℕ). Ruled k record { words = s.words; homes = s.homes; views = set s.views id (sole (looked a z x)) }) (sym which)
    (subst (λ (z : ℕ). Ruled k record { words = s.words; homes = s.homes; views = set s.views id (sole (looked a q (get_or s.words z 0))) }) (sym i_is) (looked_rule k s r id a at' q b near' low)) in (
      sole (looked a (i / 8) x),
      keeps,
      tt,
      subst (λ (z : List ℕ). Ruled k record { words = z; homes = s.homes; views = set s.views id (sole (looked a (i / 8) x)) }) (sym (set-get_or s.words i 0)) ruled,
      refl,
    )

-- ---- seats are split and joined
cut_seats : (q : ℕ) (l : List Account) → sum_by (one_at q) (drop 1 l) + sum_by (one_at q) (take 1 l) ≡ sum_by (one_at q) l
cut_seats q [] = refl
cut_seats q (a ∷ rs) = let s = sum_by-cons (one_at q) a rs in omega arith

pub cuts : (k id : ℕ) (v : View) → Splits (Ruled k) id v (but_first v) (only_first v)
cuts k id v s r at = let P : Account → Type 0 = Sound k r.past in record {
  past = r.past;
  count = r.count;
  words = r.words;
  shown = r.shown;
  sound = λ j u e. ⊎_elim
      (λ o. ⊎_elim
      (λ p. subst (λ (z : View). All P z.accounts) p.1 (All-drop P 1 v.accounts (r.sound id v at)))
      (λ p. r.sound j u p.1)
      (at_set s.views id j (but_first v) u o))
      (λ o. subst (λ (z : View). All P z.accounts) o.1 (All-take P 1 v.accounts (r.sound id v at)))
      (at_end (set s.views id (but_first v)) (only_first v) u j e);
  once = λ q. let t = sum_set (seats_at q) s.views id v (but_first v) at in let m = r.once q in let p = sum_by_push (seats_at q) (set s.views id (but_first v)) (only_first v) in let c = cut_seats q v.accounts in omega arith;
}

pub joins_two : (k id : ℕ) (v : View) (other : ℕ) (w : View) → Joins (Ruled k) id v other w (both v w) nobody
joins_two k id v other w s r at two at' = let P : Account → Type 0 = Sound k r.past in let vs : List View = set s.views id (both v w) in
    let theirs : get_elem? s.views other ≡ some w = sym (set_else s.views id other (both v w) two) ∙ at' in record {
      past = r.past;
      count = r.count;
      words = r.words;
      shown = r.shown;
      sound = λ j u e. ⊎_elim
          (λ o. subst (λ (z : View). All P z.accounts) o.1 (All-nil P))
          (λ o. ⊎_elim
          (λ p. subst (λ (z : View). All P z.accounts) p.1 (All-append P v.accounts w.accounts (r.sound id v at) (r.sound other w theirs)))
          (λ p. r.sound j u p.1)
          (at_set s.views id j (both v w) u o.1))
          (at_set vs other j nobody u e);
      once = λ q. let t = sum_set (seats_at q) s.views id v (both v w) at in let u = sum_set (seats_at q) vs other w nobody at' in let m = r.once q in let c = sum_by-append (one_at q) v.accounts w.accounts in omega arith;
    }

-- ---- how the rule begins
none_before : (q members place count : ℕ) → q < place → sum_by (one_at q) (fresh_from members place count) ≡ 0
none_before q members place zero h = refl
none_before q members place (suc count) h = let s = sum_by-cons (one_at q) (new_account place members) (fresh_from members (place + 1) count) in
    let here : one_at q (new_account place members) ≡ 0 = ap (λ (b : Bool). cond b 1 0) (ne_eqb place q (λ e. omega arith)) in let rest = none_before q members (place + 1) count (omega arith) in omega arith

one_each : (q members place count : ℕ) → sum_by (one_at q) (fresh_from members place count) ≤ 1
one_each q members place zero = omega arith
one_each q members place (suc count) = let s = sum_by-cons (one_at q) (new_account place members) (fresh_from members (place + 1) count) in dite (ℕ_discrete place q)
    (λ e. let here : one_at q (new_account place members) ≡ 1 = ap (λ (b : Bool). cond b 1 0) (eq-eqb place q e) in let rest = none_before q members (place + 1) count (omega arith) in omega arith)
    (λ ne. let here : one_at q (new_account place members) ≡ 0 = ap (λ (b : Bool). cond b 1 0) (ne_eqb place q ne) in let rest = one_each q members (place + 1) count in omega arith)

no_words : (n q : ℕ) → get_or (replicate {A = List ℕ} n []) q [] ≡ []
no_words zero q = refl
no_words (suc n) zero = refl
no_words (suc n) (suc q) = no_words n q

no_numbers : (n q : ℕ) → get_or (replicate n zero) q zero ≡ zero
no_numbers zero q = refl
no_numbers (suc n) zero = refl
no_numbers (suc n) (suc q) = no_numbers n q

fresh_sound : (members place count : ℕ) → place + count ≤ members → All (Sound members (replicate members [])) (fresh_from members place count)
fresh_sound members place zero h j d near = absurd (omega arith)
fresh_sound members place (suc count) h zero d near = record {
  members_are = refl;
  near = omega arith;
  said_is = no_words members place;
  wide = length-replicate {A = List ℕ} members [];
  heard = λ q n w e. e;
}
fresh_sound members place (suc count) h (suc j) d near = fresh_sound members (place + 1) count (omega arith) j d (omega arith)

pub starts_so : (k : ℕ) (ws : List ℕ) (xs : List (Unit {0})) → ws ≡ replicate (k * 8) zero → Ruled k (opening ws xs (everyone k))
starts_so k ws xs zeros = record {
  past = replicate k [];
  count = length-replicate {A = List ℕ} k [];
  words = ap length zeros ∙ length-replicate (k * 8) zero;
  shown = λ q b near low. inl (ap (λ (z : List ℕ). get_or z (q * 8 + b) 0) zeros ∙ no_numbers (k * 8) (q * 8 + b));
  sound = λ j v e. ⊎_elim
      (λ o. absurd (some-ne-none v (sym o)))
      (λ o. subst (λ (z : View). All (Sound k (replicate k [])) z.accounts) o.1 (fresh_sound k 0 k (omega arith)))
      (at_end [] (everyone k) v j e);
  once = λ q. let h = one_each q k 0 k in omega arith;
}

-- ---- what a seat learns that all others were joined into
module _ (k : ℕ) (s : St) (r : Ruled k s) (id : ℕ) (v : View) (at : get_elem? s.views id ≡ some v) (whole : length v.accounts ≡ k) (order : AreInOrder v.accounts) where
  all_is : all_said v.accounts ≡ r.past
  all_is = same_lists (all_said v.accounts) r.past (length-map v.accounts (λ (a : Account). a.said) ∙ whole ∙ sym r.count)
      (λ q d near.
      let near' : q < length v.accounts = (let l = length-map v.accounts (λ (a : Account). a.said) in omega arith) in
      let c : Account = get_or v.accounts q (new_account 0 0) in
      let ok : Sound k r.past c = r.sound id v at q (new_account 0 0) near' in
      let place : c.place ≡ q = order q (new_account 0 0) near' in
      get_or-map (λ (a : Account). a.said) v.accounts q (new_account 0 0) d near' ∙ sym ok.said_is ∙ ap (λ (z : ℕ). get_or r.past z []) place
      ∙ get_or_default r.past q [] d (let e = r.count in omega arith))

  pub all_heard : All (IsHeard v.accounts) v.accounts
  all_heard j d near = let ok : Sound k r.past (get_or v.accounts j d) = r.sound id v at j d near in record {
    wide = ok.wide ∙ sym whole;
    same = λ q n w e. ap (λ (z : List (List ℕ)). slice_get (get_or z q []) n) all_is ∙ ok.heard q n w e;
  }

pub learns_all : (k slots id : ℕ) (m : Sat) (i : ℕ) → Allows (Ruled k) slots id m i (λ v. v) (learns (step slots i 0 0 none) m)
learns_all k slots id m i s r wide at tiny = let v : View = m.0 in (
  v,
  keeps,
  tt,
  subst (λ (ws : List ℕ). Ruled k record { words = ws; homes = s.homes; views = set s.views id v }) (sym (set-get_or s.words i 0))
      (subst (λ (vs : List View). Ruled k record { words = s.words; homes = s.homes; views = vs }) (sym (set_again s.views id v at)) r),
  (
    refl,
    λ some_seat whole order. let ok : Sound k r.past (first_of v) = r.sound id v at 0 (new_account 0 0) some_seat in all_heard k s r id v at (whole ∙ ok.members_are) order,
  ),
)
