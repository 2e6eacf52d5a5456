-- Lists that lose a member, or get one more; the entries of receives and messages.
use Rattle.std.proofs.Common.{◌≡◌, ◌≤◌, ℕ, zero, suc, Bool, true, false, List, [], ◌∷◌, ◌++◌, length, drop, slice_get, Option, Some, None, inl, inr, refl, sym, ◌∙◌, ap, arith}
use Rattle.std.specs.Prelude.{cond, filter, find}
use Rattle.fab_base.specs.declared.items.Item.{Item}
use Rattle.fab_base.specs.declared.operations.Receive.{Receive}
use Rattle.fab_base.specs.declared.operations.Coming.{Coming}
use Rattle.fab_base.specs.declared.operations.Coming.TheVariants.{Into}
use Rattle.fab_model.specs.Complete.{entry_of}
use Rattle.fab_model.specs.Matching.{remove_first}
use Rattle.fab_laws.specs.Members.{In}
use Rattle.fab_laws.specs.InTurn.{told}

-- ---- what leaves

-- who does not pass is not missed
other_step : {X : Type 0} (keep test : X → Bool) (y x : X) (xs : List X) (b : Bool) → test y ≡ b → find test (y ∷ xs) ≡ Some x → keep x ≡ false → (find test xs ≡ Some x → filter keep (remove_first test xs) ≡ filter keep xs)
    → filter keep (remove_first test (y ∷ xs)) ≡ filter keep (y ∷ xs)
other_step keep test y x xs true t f out ih =
    let same : y ≡ x = (let e : Some y ≡ Some x = rw (t, find) at f in cc) in
    let n : keep y ≡ false = ap keep same ∙ out in
    rw (t, remove_first, n) refl
other_step {X} keep test y x xs false t f out ih = let more = ih (rw (t, find) at f) in rw (t, remove_first) (ap (λ (zs : List X). cond (keep y) (y ∷ zs) zs) more)

pub other_leaves : {X : Type 0} (keep test : X → Bool) (xs : List X) (x : X) → find test xs ≡ Some x → keep x ≡ false → filter keep (remove_first test xs) ≡ filter keep xs
other_leaves keep test [] x f out = refl
other_leaves keep test (y ∷ xs) x f out = other_step keep test y x xs (test y) refl f out (λ g. other_leaves keep test xs x g out)

-- of those that pass the first leaves
own_step : {X : Type 0} (keep test : X → Bool) (y x : X) (xs : List X) (b : Bool) → test y ≡ b → keep y ≡ b → find test (y ∷ xs) ≡ Some x → (find test xs ≡ Some x → filter keep xs ≡ x ∷ filter keep (remove_first test xs))
    → filter keep (y ∷ xs) ≡ x ∷ filter keep (remove_first test (y ∷ xs))
own_step keep test y x xs true t k f ih = let same : y ≡ x = (let e : Some y ≡ Some x = rw (t, find) at f in cc) in rw (t, k, remove_first) (ap (λ z. z ∷ filter keep xs) same)
own_step keep test y x xs false t k f ih = let more = ih (rw (t, find) at f) in rw (t, k, remove_first) more

pub own_leaves : {X : Type 0} (keep test : X → Bool) (xs : List X) (x : X) → ((y : X) → In y xs → test y ≡ keep y) → find test xs ≡ Some x → filter keep xs ≡ x ∷ filter keep (remove_first test xs)
own_leaves keep test [] x same f = absurd (cc)
own_leaves keep test (y ∷ xs) x same f = own_step keep test y x xs (test y) refl (sym (same y (inl refl))) f (own_leaves keep test xs x (λ z i. same z (inr i)))

none_step : {X : Type 0} (keep test : X → Bool) (y : X) (xs : List X) (b : Bool) → test y ≡ b → keep y ≡ b → find test (y ∷ xs) ≡ None → (find test xs ≡ None → filter keep xs ≡ []) → filter keep (y ∷ xs) ≡ []
none_step keep test y xs true t k f ih = let e : Some y ≡ None = rw (t, find) at f in absurd (cc)
none_step keep test y xs false t k f ih = let more = ih (rw (t, find) at f) in rw k more

pub none_stays : {X : Type 0} (keep test : X → Bool) (xs : List X) → ((y : X) → In y xs → test y ≡ keep y) → find test xs ≡ None → filter keep xs ≡ []
none_stays keep test [] same f = refl
none_stays keep test (y ∷ xs) same f = none_step keep test y xs (test y) refl (sym (same y (inl refl))) f (none_stays keep test xs (λ z i. same z (inr i)))

pub one_kept : {X : Type 0} (keep : X → Bool) (xs : List X) (x : X) (b : Bool) → keep x ≡ b → filter keep (xs ++ x ∷ []) ≡ filter keep xs ++ elim b [ true ↦ x ∷ [] | false ↦ [] ]
one_kept keep [] x true k = rw k refl
one_kept keep [] x false k = rw k refl
one_kept {X} keep (y ∷ xs) x b k = go (keep y) (one_kept keep xs x b k)
  where
    tail : List X
    tail = elim b [ true ↦ x ∷ [] | false ↦ [] ]

    go : (c : Bool) → filter keep (xs ++ x ∷ []) ≡ filter keep xs ++ tail → cond c (y ∷ filter keep (xs ++ x ∷ [])) (filter keep (xs ++ x ∷ [])) ≡ cond c (y ∷ filter keep xs) (filter keep xs) ++ tail
    go true ih = ap (λ zs. y ∷ zs) ih
    go false ih = ih

-- ---- what is left behind so many

pub dropped_end : {X : Type 0} (n : ℕ) (xs : List X) (x : X) → n ≤ length xs → drop n (xs ++ x ∷ []) ≡ drop n xs ++ x ∷ []
dropped_end zero xs x le = refl
dropped_end (suc n) [] x le = absurd (omega (arith, le))
dropped_end (suc n) (y ∷ xs) x le = dropped_end n xs x (omega (arith, le))

pub none_left : {X : Type 0} (n : ℕ) (xs : List X) → drop n xs ≡ [] → length xs ≤ n
none_left zero [] e = omega arith
none_left zero (x ∷ xs) e = absurd (cc (e))
none_left (suc n) [] e = omega arith
none_left (suc n) (x ∷ xs) e = let le = none_left n xs e in omega (arith, le)

pub first_left : {X : Type 0} (n : ℕ) (xs : List X) (y : X) (ys : List X) → drop n xs ≡ y ∷ ys → (slice_get xs n ≡ Some y) × (drop (suc n) xs ≡ ys)
first_left zero [] y ys e = absurd (cc (e))
first_left zero (x ∷ xs) y ys e = let same : x ≡ y = cc (e) in let rest : xs ≡ ys = cc (e) in (ap Some same, rest)
first_left (suc n) [] y ys e = absurd (cc (e))
first_left (suc n) (x ∷ xs) y ys e = first_left n xs y ys e

-- ---- entries

pub told_receive : (p : ℕ) (rs : List Receive) (r : Receive) (xs : List Item) → length xs ≤ length rs → told p (rs ++ r ∷ []) xs ≡ told p rs xs
told_receive p [] r [] le = refl
told_receive p [] r (x ∷ xs) le = absurd (omega (arith, le))
told_receive p (q ∷ rs) r [] le = refl
told_receive p (q ∷ rs) r (x ∷ xs) le = ap (λ es. entry_of q 0 p x.head x.bytes ∷ es) (told_receive p rs r xs (omega (arith, le)))

pub told_item : (p : ℕ) (rs : List Receive) (x : Item) (xs : List Item) → length rs ≤ length xs → told p rs (xs ++ x ∷ []) ≡ told p rs xs
told_item p [] x xs le = refl
told_item p (r ∷ rs) x [] le = absurd (omega (arith, le))
told_item p (r ∷ rs) x (y ∷ xs) le = ap (λ es. entry_of r 0 p y.head y.bytes ∷ es) (told_item p rs x xs (omega (arith, le)))

-- the receive gets the message that waits at its place
pub told_got : (p : ℕ) (rs : List Receive) (r : Receive) (x : Item) (xs : List Item) → slice_get xs (length rs) ≡ Some x → told p (rs ++ r ∷ []) xs ≡ told p rs xs ++ entry_of r 0 p x.head x.bytes ∷ []
told_got p [] r x [] e = absurd (cc (e))
told_got p [] r x (y ∷ xs) e = let same : y ≡ x = cc (e) in ap (λ (z : Item). entry_of r 0 p z.head z.bytes ∷ []) same
told_got p (q ∷ rs) r x [] e = absurd (cc (e))
told_got p (q ∷ rs) r x (y ∷ xs) e = ap (λ es. entry_of q 0 p y.head y.bytes ∷ es) (told_got p rs r x xs e)

-- the message comes to the receive at its place
pub told_came : (p : ℕ) (rs : List Receive) (r : Receive) (x : Item) (xs : List Item) → slice_get rs (length xs) ≡ Some r → told p rs (xs ++ x ∷ []) ≡ told p rs xs ++ entry_of r 0 p x.head x.bytes ∷ []
told_came p [] r x xs e = absurd (cc (e))
told_came p (q ∷ rs) r x [] e = let same : q ≡ r = cc (e) in rw (same) (none rs)
  where
    none : (qs : List Receive) → entry_of r 0 p x.head x.bytes ∷ told p qs [] ≡ entry_of r 0 p x.head x.bytes ∷ []
    none [] = refl
    none (z ∷ qs) = refl
told_came p (q ∷ rs) r x (y ∷ xs) e = ap (λ es. entry_of q 0 p y.head y.bytes ∷ es) (told_came p rs r x xs e)

-- ---- what comes into a receive comes into one, at one place

pub into_same : (q r : Receive) (k l : ℕ) → (let c : Option Coming = Some (Into q k) in c) ≡ Some (Into r l) → (q ≡ r) × (k ≡ l)
into_same q r k l e = let a : q ≡ r = cc (e) in let b : k ≡ l = cc (e) in (a, b)
