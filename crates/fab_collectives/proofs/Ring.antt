-- The shares of ranks in a row, around the ring: their bytes one after another.
--     bytes r a n      those of the n ranks from the one that is a steps on from rank r
use Rattle.std.proofs.Common.{◌≡◌, ℕ, zero, suc, ◌+◌, ◌-◌, ◌*◌, ◌<◌, ◌≤◌, inl, inr, min, Bool, true, false, List, [], ◌++◌, length, take, drop, refl, sym, ap, ap₂, ◌∙◌, subst, arith, append-nil, append_assoc, length-append}
use Rattle.std.specs.Prelude.{nat_lt}
use Rattle.std.proofs.lemmas.Bool.{ltb-true, ltb-false}
use Rattle.std.proofs.lemmas.List.{drop_at, take_all, take_at}
use Rattle.std.proofs.Math.Nat.{add-mul}
use Rattle.std.proofs.lemmas.Nat.{mul-le}
use Rattle.fab_topology.specs.Rounds.{ahead, behind}
use Rattle.fab_topology.proofs.Steps.{IsAhead, ahead_below, ahead_is, behind_below, behind_is, same_end}

-- steps after steps
on_and_on : (p r e s a u : ℕ) → r < p → e + a < p → IsAhead p r e s → IsAhead p s a u → IsAhead p r (e + a) u
on_and_on p r e s a u there near (inl x) (inl y) = inl (omega arith)
on_and_on p r e s a u there near (inl x) (inr y) = inr (omega arith)
on_and_on p r e s a u there near (inr x) (inl y) = inr (omega arith)
on_and_on p r e s a u there near (inr x) (inr y) = absurd (let no : 1 ≤ 0 = omega arith in omega arith)

module _ (p len : ℕ) (f : ℕ → List ℕ) where
  pub bytes : ℕ → ℕ → ℕ → List ℕ
  bytes r a zero = []
  bytes r a (suc n) = f (ahead p r a) ++ bytes r (suc a) n

  pub bytes_none : (r a : ℕ) → bytes r a 0 ≡ []
  unfolding bytes
  bytes_none r a = refl

  pub bytes_append : (r a m n b k : ℕ) → a + m ≡ b → m + n ≡ k → bytes r a m ++ bytes r b n ≡ bytes r a k
  unfolding bytes
  bytes_append r a zero n b k at sum = let x : b ≡ a = omega arith in let y : n ≡ k = omega arith in ap₂ (λ (i j : ℕ). bytes r i j) x y
  bytes_append r a (suc m) n b zero at sum = absurd (let no : 1 ≤ 0 = omega arith in omega arith)
  bytes_append r a (suc m) n b (suc k) at sum = append_assoc (f (ahead p r a)) (bytes r (suc a) m) (bytes r b n)
      ∙ ap (λ (xs : List ℕ). f (ahead p r a) ++ xs) (bytes_append r (suc a) m n b k (omega arith) (omega arith))

  pub self : (r : ℕ) → r < p → ahead p r 0 ≡ r
  self r there = same_end p r 0 (ahead p r 0) r (ahead_below p r 0 there (omega arith)) there (ahead_is p r 0 there (omega arith)) (inl (omega arith))

  pub bytes_self : (r : ℕ) → r < p → bytes r 0 1 ≡ f r
  unfolding bytes
  bytes_self r there = append-nil (f (ahead p r 0)) ∙ ap f (self r there)

  -- seen from a rank further on
  pub bytes_from : (r e : ℕ) → r < p → e < p → (a b n : ℕ) → e + a ≡ b → b + n ≤ p → bytes (ahead p r e) a n ≡ bytes r b n
  unfolding bytes
  bytes_from r e there near a b zero at within = refl
  bytes_from r e there near a b (suc n) at within = let s = ahead p r e in let below = ahead_below p r e there (omega arith) in
      ap₂ (λ (xs ys : List ℕ). xs ++ ys)
      (ap f (same_end p r b (ahead p s a) (ahead p r b) (ahead_below p s a below (omega arith)) (ahead_below p r b there (omega arith))
      (subst (λ (i : ℕ). IsAhead p r i (ahead p s a)) at (on_and_on p r e s a (ahead p s a) there (omega arith) (ahead_is p r e there (omega arith)) (ahead_is p s a below (omega arith))))
      (ahead_is p r b there (omega arith))))
      (bytes_from r e there near (suc a) (suc b) n (omega arith) (omega arith))

  module _ (alike : (r : ℕ) → r < p → length (f r) ≡ len) (r : ℕ) (there : r < p) where
    pub length_bytes : (a n : ℕ) → a + n ≤ p → length (bytes r a n) ≡ n * len
    unfolding bytes
    length_bytes a zero within = let none : 0 * len ≡ 0 = omega arith in sym none
    length_bytes a (suc n) within = let first = alike (ahead p r a) (ahead_below p r a there (omega arith)) in let rest = length_bytes (suc a) n (omega arith) in
        let sum = length-append (f (ahead p r a)) (bytes r (suc a) n) in let both = add-mul n 1 len in let more : suc n * len ≡ (n + 1) * len = (let e : suc n ≡ n + 1 = omega arith in ap (λ (i : ℕ). i * len) e) in omega arith

    pub take_bytes : (a n x : ℕ) → a + n ≤ p → take (x * len) (bytes r a n) ≡ bytes r a (min x n)
    take_bytes a n x within = by (nat_lt x n) refl
      where
        by : (b : Bool) → nat_lt x n ≡ b → take (x * len) (bytes r a n) ≡ bytes r a (min x n)
        by true is = let less = ltb-true x n is in let least : min x n ≡ x = omega arith in
            ap (take (x * len)) (sym (bytes_append r a x (n - x) (a + x) n refl (omega arith)))
            ∙ take_at (bytes r a x) (bytes r (a + x) (n - x)) (x * len) (length_bytes a x (omega arith))
            ∙ sym (ap (λ (i : ℕ). bytes r a i) least)
        by false is = let more = ltb-false x n is in let all : min x n ≡ n = omega arith in
            let long = length_bytes a n within in let most = mul-le n len x len more (omega arith) in
            take_all (x * len) (bytes r a n) (omega arith) ∙ sym (ap (λ (i : ℕ). bytes r a i) all)

    -- one share of them
    pub one_of : (x : ℕ) → x < p → take len (drop (x * len) (bytes r 0 p)) ≡ f (ahead p r x)
    unfolding bytes
    one_of x near = by (p - x) refl
      where
        by : (n : ℕ) → p - x ≡ n → take len (drop (x * len) (bytes r 0 p)) ≡ f (ahead p r x)
        by zero none = absurd (let no : 1 ≤ 0 = omega arith in omega arith)
        by (suc n) some = ap (λ (xs : List ℕ). take len (drop (x * len) xs)) (sym (bytes_append r 0 x (suc n) x p (omega arith) (omega arith)))
            ∙ ap (take len) (drop_at (bytes r 0 x) (bytes r x (suc n)) (x * len) (length_bytes 0 x (omega arith)))
            ∙ take_at (f (ahead p r x)) (bytes r (suc x) n) len (alike (ahead p r x) (ahead_below p r x there (omega arith)))

    pub share_at : (s : ℕ) → s < p → take len (drop (behind p s r * len) (bytes r 0 p)) ≡ f s
    share_at s last = let x = behind p s r in let near = behind_below p s r last (omega arith) in
        one_of x near ∙ ap f (same_end p r x (ahead p r x) s (ahead_below p r x there (omega arith)) last (ahead_is p r x there (omega arith)) (turned (behind_is p s r last (omega arith))))
      where
        turned : IsAhead p (behind p s r) r s → IsAhead p r (behind p s r) s
        turned (inl e) = inl (omega arith)
        turned (inr e) = inr (omega arith)
