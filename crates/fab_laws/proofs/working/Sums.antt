-- Sums over lists and over numbers, and how they change with one member.
use Rattle.std.proofs.Common.{◌≡◌, ◌≢◌, ◌≤◌, ◌<◌, ◌+◌, ℕ, zero, suc, Bool, true, false, List, [], ◌∷◌, ◌++◌, drop, length, length-append, set, get_or, slice_get, Some, inl, inr, refl, sym, ◌∙◌, ap, subst, arith}
use Rattle.std.specs.Prelude.{find}
use Rattle.std.proofs.lemmas.Bool.{cases_eq}
use Rattle.fab_base.specs.declared.items.Item.{Item}
use Rattle.fab_model.specs.Matching.{remove_first, change_first}
use Rattle.fab_laws.specs.Work.{heft, total, waiting, halves, item_work, on_way}

pub heft_append : {X : Type 0} (f : X → ℕ) (xs ys : List X) → heft f (xs ++ ys) ≡ heft f xs + heft f ys
heft_append f [] ys = omega arith
heft_append f (x ∷ xs) ys = omega (arith, heft_append f xs ys)

pub heft_put : {X : Type 0} (f : X → ℕ) (xs : List X) (i : ℕ) (y d : X) → heft f (set xs i y) + f (get_or xs i d) ≤ heft f xs + f y + f d
heft_put f [] i y d = omega arith
heft_put f (x ∷ xs) zero y d = omega arith
heft_put f (x ∷ xs) (suc i) y d = omega (arith, heft_put f xs i y d)

-- ---- lengths

pub removed_length : {X : Type 0} (test : X → Bool) (xs : List X) (y : X) → find test xs ≡ Some y → length xs ≡ length (remove_first test xs) + 1
removed_length test [] y f = absurd (cc)
removed_length test (x ∷ xs) y f = go (test x) refl (removed_length test xs y)
  where
    go : (b : Bool) → test x ≡ b → (find test xs ≡ Some y → length xs ≡ length (remove_first test xs) + 1) → length (x ∷ xs) ≡ length (remove_first test (x ∷ xs)) + 1
    go true t ih = rw (t, remove_first) (omega arith)
    go false t ih = let more = ih (rw (t, find) at f) in rw (t, remove_first) (omega (arith, more))

pub changed_length : {X : Type 0} (test : X → Bool) (f : X → X) (xs : List X) → length (change_first test f xs) ≡ length xs
changed_length test f [] = refl
changed_length {X} test f (x ∷ xs) = go (test x) (changed_length test f xs)
  where
    go : (b : Bool) → length (change_first test f xs) ≡ length xs → length {A = X} (elim b [ true ↦ f x ∷ xs | false ↦ x ∷ change_first test f xs ]) ≡ length (x ∷ xs)
    go true le = omega arith
    go false le = omega (arith, le)

-- ---- of numbers

pub total_le : (f g : ℕ → ℕ) (n : ℕ) → ((q : ℕ) → q < n → f q ≤ g q) → total f n ≤ total g n
total_le f g zero le = omega arith
total_le f g (suc n) le = omega (arith, total_le f g n (λ q lt. le q (omega (arith, lt))), le n (omega arith))

-- at t so much less and so much more
pub total_change : (f g : ℕ → ℕ) (t v w n : ℕ) → ((q : ℕ) → q ≢ t → f q ≤ g q) → f t + v ≤ g t + w → t < n → total f n + v ≤ total g n + w
total_change f g t v w zero le here lt = absurd (omega (arith, lt))
total_change f g t v w (suc n) le here lt = elim (cases_eq n t) [
  | inl same ↦ (let at_n : f n + v ≤ g n + w = subst (λ k. f k + v ≤ g k + w) (sym same) here in
      omega (arith, at_n, total_le f g n (λ q below. le q (λ e. absurd (omega (arith, e, same, below))))))
  | inr other ↦ omega (arith, le n other, total_change f g t v w n le here (omega (arith, lt, other)))
]

pub total_more : (f g : ℕ → ℕ) (t w n : ℕ) → ((q : ℕ) → q ≢ t → f q ≤ g q) → f t ≤ g t + w → total f n ≤ total g n + w
total_more f g t w zero le here = omega arith
total_more f g t w (suc n) le here = elim (cases_eq n t) [
  | inl same ↦ (let at_n : f n ≤ g n + w = subst (λ k. f k ≤ g k + w) (sym same) here in
      omega (arith, at_n, total_le f g n (λ q below. le q (λ e. absurd (omega (arith, e, same, below))))))
  | inr other ↦ omega (arith, le n other, total_more f g t w n le here)
]

-- ---- items accepted

pub waiting_join : (accepted : List (List Item)) (sent : List ℕ) (t : ℕ) (ys : List Item) → waiting (set accepted t (get_or accepted t [] ++ ys)) sent ≤ waiting accepted sent + length ys
waiting_join [] sent t ys = omega arith
waiting_join (xs ∷ accepted) [] zero ys = omega (arith, length-append xs ys)
waiting_join (xs ∷ accepted) (n ∷ sent) zero ys = omega (arith, length-append xs ys)
waiting_join (xs ∷ accepted) [] (suc t) ys = omega (arith, waiting_join accepted [] t ys)
waiting_join (xs ∷ accepted) (n ∷ sent) (suc t) ys = omega (arith, waiting_join accepted sent t ys)

pub waiting_sent : (accepted : List (List Item)) (sent : List ℕ) (t : ℕ) → t < length sent → get_or sent t 0 < length (get_or accepted t []) → waiting accepted (set sent t (get_or sent t 0 + 1)) + 1 ≡ waiting accepted sent
waiting_sent [] sent t lt less = absurd (omega (arith, less))
waiting_sent (xs ∷ accepted) [] t lt less = absurd (omega (arith, lt))
waiting_sent (xs ∷ accepted) (n ∷ sent) zero lt less = omega (arith, less)
waiting_sent (xs ∷ accepted) (n ∷ sent) (suc t) lt less = omega (arith, waiting_sent accepted sent t (omega (arith, lt)) less)

pub halves_head : (heads tails : List ℕ) (s : ℕ) → s < length heads → get_or heads s 0 ≡ get_or tails s 0 → halves (set heads s (get_or heads s 0 + 1)) tails ≡ halves heads tails + 1
halves_head [] tails s lt level = absurd (omega (arith, lt))
halves_head (h ∷ heads) [] zero lt level = omega (arith, level)
halves_head (h ∷ heads) (t ∷ tails) zero lt level = omega (arith, level)
halves_head (h ∷ heads) [] (suc s) lt level = omega (arith, halves_head heads [] s (omega (arith, lt)) level)
halves_head (h ∷ heads) (t ∷ tails) (suc s) lt level = omega (arith, halves_head heads tails s (omega (arith, lt)) level)

pub halves_tail : (heads tails : List ℕ) (s : ℕ) → s < length tails → get_or heads s 0 ≡ get_or tails s 0 + 1 → halves heads (set tails s (get_or tails s 0 + 1)) + 1 ≡ halves heads tails
halves_tail [] tails s lt odd = absurd (omega (arith, odd))
halves_tail (h ∷ heads) [] s lt odd = absurd (omega (arith, lt))
halves_tail (h ∷ heads) (t ∷ tails) zero lt odd = omega (arith, odd)
halves_tail (h ∷ heads) (t ∷ tails) (suc s) lt odd = omega (arith, halves_tail heads tails s (omega (arith, lt)) odd)

-- ---- items on their way

dropped_less : (n : ℕ) (xs : List Item) → heft item_work (drop n xs) ≤ heft item_work xs
dropped_less zero xs = omega arith
dropped_less (suc n) [] = omega arith
dropped_less (suc n) (x ∷ xs) = omega (arith, dropped_less n xs)

drop_join : (n : ℕ) (xs ys : List Item) → heft item_work (drop n (xs ++ ys)) ≤ heft item_work (drop n xs) + heft item_work ys
drop_join zero xs ys = omega (arith, heft_append item_work xs ys)
drop_join (suc n) [] ys = omega (arith, dropped_less (suc n) ys)
drop_join (suc n) (x ∷ xs) ys = drop_join n xs ys

pub drop_next : (n : ℕ) (xs : List Item) (x : Item) → slice_get xs n ≡ Some x → heft item_work (drop (n + 1) xs) + item_work x ≡ heft item_work (drop n xs)
drop_next n [] x e = absurd (cc (e))
drop_next zero (y ∷ xs) x e = let f : y ≡ x = cc in omega (arith, ap item_work f)
drop_next (suc n) (y ∷ xs) x e =
    let f : suc n + 1 ≡ suc (n + 1) = omega arith in
    ap (λ m. heft item_work (drop m (y ∷ xs)) + item_work x) f ∙ drop_next n xs x e

joined_other : (accepted : List (List Item)) (t q : ℕ) (ys : List Item) → q ≢ t → get_or (set accepted t ys) q [] ≡ get_or accepted q []
joined_other [] t q ys other = refl
joined_other (xs ∷ accepted) zero zero ys other = absurd (other refl)
joined_other (xs ∷ accepted) zero (suc q) ys other = refl
joined_other (xs ∷ accepted) (suc t) zero ys other = refl
joined_other (xs ∷ accepted) (suc t) (suc q) ys other = joined_other accepted t q ys (λ e. other (ap suc e))

joined_here : (accepted : List (List Item)) (t n : ℕ) (ys : List Item) → heft item_work (drop n (get_or (set accepted t (get_or accepted t [] ++ ys)) t [])) ≤ heft item_work (drop n (get_or accepted t [])) + heft item_work ys
joined_here [] t n ys = omega arith
joined_here (xs ∷ accepted) zero n ys = drop_join n xs ys
joined_here (xs ∷ accepted) (suc t) n ys = joined_here accepted t n ys

pub on_way_join : (n : ℕ) (at : ℕ → ℕ) (accepted : List (List Item)) (t : ℕ) (ys : List Item) → on_way n at (set accepted t (get_or accepted t [] ++ ys)) ≤ on_way n at accepted + heft item_work ys
unfolding on_way
on_way_join n at accepted t ys =
    total_more (λ q. heft item_work (drop (at q) (get_or (set accepted t (get_or accepted t [] ++ ys)) q []))) (λ q. heft item_work (drop (at q) (get_or accepted q []))) t (heft item_work ys) n
    (λ q other. let e = joined_other accepted t q (get_or accepted t [] ++ ys) other in omega (arith, ap (λ xs. heft item_work (drop (at q) xs)) e))
    (joined_here accepted t (at t) ys)

pub on_way_next : (n : ℕ) (at later : ℕ → ℕ) (accepted : List (List Item)) (p : ℕ) (x : Item) → p < n → ((q : ℕ) → q ≢ p → later q ≡ at q) → later p ≡ at p + 1 → slice_get (get_or accepted p []) (at p) ≡ Some x
    → on_way n later accepted + item_work x ≤ on_way n at accepted
unfolding on_way
on_way_next n at later accepted p x below same more has =
    let work_of : (ℕ → ℕ) → ℕ → ℕ = λ f q. heft item_work (drop (f q) (get_or accepted q [])) in
    let here : work_of later p + item_work x ≡ work_of at p = ap (λ k. heft item_work (drop k (get_or accepted p [])) + item_work x) more ∙ drop_next (at p) (get_or accepted p []) x has in
    let all = total_change (work_of later) (work_of at) p (item_work x) 0 n (λ q other. let e : work_of later q ≡ work_of at q = ap (λ k. heft item_work (drop k (get_or accepted q []))) (same q other) in omega (arith, e)) (omega (arith, here)) below in
    omega (arith, all)
