-- What a rank makes of its own share and of those that it needed is what the round comes to.
use Rattle.std.proofs.Common.{Bool, List, None, Option, Some, [], ap, ap₂, append-nil, append_assoc, arith, cond, drop, false, filter, inl, inr, length, length-append, map, not, option_map, refl, slice_get, subst, suc, sym, take, true, zero, ℕ, ◌%◌, ◌&&◌, ◌++◌, ◌+◌, ◌<◌, ◌∙◌, ◌∷◌, ◌≡◌, ◌≢◌, ◌≤◌, ◌⊎◌}
use Rattle.std.proofs.lemmas.Bool.{and_parts, cases_eq, cases_lt, eqb-true}
use Rattle.std.proofs.lemmas.List.Elements.{All-cons, All-get_or, All-nil, filter-append}
use Rattle.std.proofs.lemmas.List.{drop-append-le, drop_all, length-map, map-append, take-append-le, take_all}
use Rattle.std.proofs.lemmas.Option.{slice_get-get_or, slice_get-map, slice_get_within}
use Rattle.std.specs.List.{concat}
use Rattle.std.specs.Prelude.{if◌then◌else◌, slice_index_or, ◌==◌}
use Rattle.fab_base.specs.Elements.{element_size}
use Rattle.fab_model.specs.Calls.{upto}
use Rattle.fab_answer.proofs.Lists.{In, differ_is, length-upto, never, not_true, same_lists, same_number}
use Rattle.fab_workload_laws.proofs.Whole.{upto_get}
use Rattle.fab_fold.specs.declared.coll.Coll.TheVariants.{Allgather, Allreduce, Barrier, Broadcast}
use Rattle.fab_fold.specs.declared.coll.Coll.{Coll}
use Rattle.fab_workloads.specs.Plan.{senders}
use Rattle.fab_fold.specs.Shares.{AreAlike, AreReceived, AreShares, fold, needs, outcome_of, reduced, share_in}
use Rattle.fab_workload_laws.proofs.Ranks.{Apart, filter_in, kept_apart, kept_below, kept_in}

-- ---- its own share among the others'

module _ {X : Type 0} (f : ℕ → X) (keep : ℕ → Bool) (r : ℕ) (own : keep r ≡ false) (others : (s : ℕ) → s ≢ r → keep s ≡ true) where
  one_kept : (n : ℕ) → n ≢ r → filter keep (n ∷ []) ≡ n ∷ []
  one_kept n differ = ap (λ b. cond b (n ∷ []) []) (others n differ)

  own_dropped : filter keep (r ∷ []) ≡ []
  own_dropped = ap (λ b. cond b (r ∷ []) []) own

  -- below its own rank all are kept
  all_kept : (n : ℕ) → n ≤ r → filter keep (upto n) ≡ upto n
  all_kept zero le = refl
  all_kept (suc n) le = filter-append keep (upto n) (n ∷ []) ∙ ap₂ (λ (xs ys : List ℕ). xs ++ ys) (all_kept n (omega (arith, le))) (one_kept n (λ e. omega (arith, e, le)))

  kept_long : (n : ℕ) → r < n → length (filter keep (upto n)) + 1 ≡ n
  kept_long zero lt = absurd (omega (arith, lt))
  kept_long (suc n) lt = go (cases_eq n r) (kept_long n)
    where
      whole : length (filter keep (upto (suc n))) ≡ length (filter keep (upto n)) + length (filter keep (n ∷ []))
      whole = ap length (filter-append keep (upto n) (n ∷ [])) ∙ length-append (filter keep (upto n)) (filter keep (n ∷ []))

      below : n ≢ r → r < n
      below f = elim (cases_lt r n) [ inl less ↦ less | inr more ↦ absurd (f (let e : n ≡ r = omega (arith, more, lt) in e)) ]

      go : (n ≡ r) ⊎ (n ≢ r) → (r < n → length (filter keep (upto n)) + 1 ≡ n) → length (filter keep (upto (suc n))) + 1 ≡ suc n
      go (inl same) ih = omega (arith, whole, ap length (all_kept n (omega (arith, same))), length-upto n, ap length (subst (λ k. filter keep (k ∷ []) ≡ []) (sym same) own_dropped))
      go (inr differ) ih = omega (arith, whole, ap length (one_kept n differ), ih (below differ))

  abbrev joined_in : List X → List X
  joined_in xs = take r xs ++ f r ∷ drop r xs

  pub own_among : (n : ℕ) → r < n → take r (map f (filter keep (upto n))) ++ f r ∷ drop r (map f (filter keep (upto n))) ≡ map f (upto n)
  own_among zero lt = absurd (omega (arith, lt))
  own_among (suc n) lt = go (cases_eq n r) (own_among n)
    where
      split : map f (filter keep (upto (suc n))) ≡ map f (filter keep (upto n)) ++ map f (filter keep (n ∷ []))
      split = ap (map f) (filter-append keep (upto n) (n ∷ [])) ∙ map-append f (filter keep (upto n)) (filter keep (n ∷ []))

      go : (n ≡ r) ⊎ (n ≢ r) → (r < n → take r (map f (filter keep (upto n))) ++ f r ∷ drop r (map f (filter keep (upto n))) ≡ map f (upto n)) → take r (map f (filter keep (upto (suc n)))) ++ f r ∷ drop r (map f (filter keep (upto (suc n)))) ≡ map f (upto (suc n))
      go (inl same) ih =
          let all : map f (filter keep (upto (suc n))) ≡ map f (upto n) =
          split ∙ ap₂ (λ (xs ys : List ℕ). map f xs ++ map f ys) (all_kept n (omega (arith, same))) (subst (λ k. filter keep (k ∷ []) ≡ []) (sym same) own_dropped) ∙ append-nil (map f (upto n)) in
          let size : length (map f (upto n)) ≡ r = length-map (upto n) f ∙ length-upto n ∙ same in
          ap joined_in all
          ∙ ap₂ (λ (xs ys : List X). xs ++ f r ∷ ys) (take_all r (map f (upto n)) (omega (arith, size))) (drop_all r (map f (upto n)) (omega (arith, size)))
          ∙ ap (λ k. map f (upto n) ++ f k ∷ []) (sym same) ∙ sym (map-append f (upto n) (n ∷ []))
      go (inr differ) ih =
          let less : r < n = elim (cases_lt r n) [ inl less ↦ less | inr more ↦ absurd (differ (let e : n ≡ r = omega (arith, more, lt) in e)) ] in
          let all : map f (filter keep (upto (suc n))) ≡ map f (filter keep (upto n)) ++ f n ∷ [] = split ∙ ap (λ (ys : List ℕ). map f (filter keep (upto n)) ++ map f ys) (one_kept n differ) in
          let room : r ≤ length (map f (filter keep (upto n))) = omega (arith, length-map (filter keep (upto n)) f, kept_long n less, less) in
          ap joined_in all
          ∙ ap₂ (λ (xs ys : List X). xs ++ f r ∷ ys) (take-append-le r (map f (filter keep (upto n))) (f n ∷ []) room) (drop-append-le r (map f (filter keep (upto n))) (f n ∷ []) room)
          ∙ sym (append_assoc (take r (map f (filter keep (upto n)))) (f r ∷ drop r (map f (filter keep (upto n)))) (f n ∷ []))
          ∙ ap (λ (xs : List X). xs ++ f n ∷ []) (ih less) ∙ sym (map-append f (upto n) (n ∷ []))

-- ---- all shares

pub every_share : (shares : List (List ℕ)) → map (λ s. slice_index_or shares s []) (upto (length shares)) ≡ shares
every_share shares = same_lists (map (λ s. slice_index_or shares s []) (upto (length shares))) shares (λ k. slice_get-map (λ s. slice_index_or shares s []) (upto (length shares)) k ∙ go k (cases_lt k (length shares)))
  where
    beyond : (k : ℕ) (o : Option ℕ) (q : Option (List ℕ)) → slice_get (upto (length shares)) k ≡ o → slice_get shares k ≡ q → length shares ≤ k
        → option_map (λ s. slice_index_or shares s []) (slice_get (upto (length shares)) k) ≡ slice_get shares k
    beyond k (Some s) q e f le = absurd (omega (arith, slice_get_within (upto (length shares)) k s e, length-upto (length shares), le))
    beyond k None (Some x) e f le = absurd (omega (arith, slice_get_within shares k x f, le))
    beyond k None None e f le = ap (option_map (λ s. slice_index_or shares s [])) e ∙ sym f

    go : (k : ℕ) → (k < length shares) ⊎ (length shares ≤ k) → option_map (λ s. slice_index_or shares s []) (slice_get (upto (length shares)) k) ≡ slice_get shares k
    go k (inl lt) = ap (option_map (λ s. slice_index_or shares s [])) (upto_get (length shares) k lt) ∙ sym (slice_get-get_or shares k [] lt)
    go k (inr le) = beyond k (slice_get (upto (length shares)) k) (slice_get shares k) refl refl le

-- ---- the first of a list of the root alone

first_root : {X : Type 0} (f : ℕ → X) (d : X) (root : ℕ) (xs : List ℕ) → In root xs → ((x : ℕ) → In x xs → x ≡ root) → slice_index_or (map f xs) 0 d ≡ f root
first_root f d root [] i only = never i
first_root f d root (x ∷ xs) i only = ap f (only x (inl refl))

-- ---- what a rank makes of it

-- in a round in which each needs the share of every other
all_shares : (peers : ℕ) (shares : List (List ℕ)) (keep : ℕ → Bool) (r : ℕ) → keep r ≡ false → ((s : ℕ) → s ≢ r → keep s ≡ true) → length shares ≡ peers → r < peers
    → (let f : ℕ → List ℕ = λ s. slice_index_or shares s [] in take r (map f (filter keep (upto peers))) ++ f r ∷ drop r (map f (filter keep (upto peers))) ≡ shares)
all_shares peers shares keep r own others size lt =
    own_among (λ s. slice_index_or shares s []) keep r own others peers lt
    ∙ ap (λ n. map (λ s. slice_index_or shares s []) (upto n)) (sym size) ∙ every_share shares

not_own : (r : ℕ) → (not (r == r) && true) ≡ false
not_own r = ap (λ b. not b && true) (same_number r)

others_needed : (r s : ℕ) → s ≢ r → (not (r == s) && true) ≡ true
others_needed r s differ = ap (λ b. not b && true) (differ_is r s (λ e. differ (sym e)))

pub folds : (peers : ℕ) (coll : Coll) (shares : List (List ℕ)) (r : ℕ) → AreShares peers coll shares → r < peers
    → outcome_of coll r (share_in coll shares r) (map (share_in coll shares) (senders peers coll r)) ≡ fold coll shares
unfolding outcome_of fold
folds peers Barrier shares r is lt = refl
folds peers (Broadcast root) shares r is lt = go (r == root) refl
  where
    root_share : share_in (Broadcast root) shares root ≡ slice_index_or shares 0 []
    root_share = ap (λ (b : Bool). if b then slice_index_or shares 0 [] else []) (same_number root)

    go : (b : Bool) → (r == root) ≡ b
        → (if b then (if b then slice_index_or shares 0 [] else []) else slice_index_or (map (share_in (Broadcast root) shares) (senders peers (Broadcast root) r)) 0 []) ≡ slice_index_or shares 0 []
    go true e = refl
    go false e = first_root (share_in (Broadcast root) shares) [] root (senders peers (Broadcast root) r)
        (kept_in (λ s. needs (Broadcast root) r s) peers root is.0 (ap₂ (λ (a b : Bool). not a && b) e (same_number root)))
        (λ x i. eqb-true x root (and_parts _ _ (filter_in (λ s. needs (Broadcast root) r s) (upto peers) x i).1).1)
        ∙ root_share
folds peers Allgather shares r is lt = ap concat (all_shares peers shares (λ s. needs Allgather r s) r (not_own r) (others_needed r) is.0 lt)
folds peers (Allreduce op num) shares r is lt = ap (reduced op num) (all_shares peers shares (λ s. needs (Allreduce op num) r s) r (not_own r) (others_needed r) is.0 lt)

-- ---- what it received is what `outcome` asks for

alike_mapped : (f : ℕ → List ℕ) (len : ℕ) (xs : List ℕ) → ((x : ℕ) → In x xs → length (f x) ≡ len) → AreAlike len (map f xs)
alike_mapped f len [] so = All-nil (λ share. length share ≡ len)
alike_mapped f len (x ∷ xs) so = All-cons (λ share. length share ≡ len) (f x) (map f xs) (so x (inl refl)) (alike_mapped f len xs (λ y i. so y (inr i)))

root_alone : (root : ℕ) (xs : List ℕ) → Apart xs → In root xs → ((x : ℕ) → In x xs → x ≡ root) → length xs ≡ 1
root_alone root [] apart i only = never i
root_alone root (x ∷ []) apart i only = refl
root_alone root (x ∷ y ∷ xs) apart i only = absurd (apart.0 (inl (only x (inl refl) ∙ sym (only y (inr (inl refl))))))

no_member : (xs : List ℕ) → ((x : ℕ) → In x xs → ⊥) → length xs ≡ 0
no_member [] none = refl
no_member (x ∷ xs) none = absurd (none x (inl refl))

module _ (peers : ℕ) (shares : List (List ℕ)) (keep : ℕ → Bool) (r : ℕ) (own : keep r ≡ false) (others : (s : ℕ) → s ≢ r → keep s ≡ true) (lt : r < peers) where
  enough : (f : ℕ → List ℕ) → r ≤ length (map f (filter keep (upto peers)))
  enough f = omega (arith, length-map (filter keep (upto peers)) f, kept_long f keep r own others peers lt, lt)

  all_alike : (len : ℕ) → length shares ≡ peers → AreAlike len shares
      → AreAlike (length (slice_index_or shares r [])) (map (λ s. slice_index_or shares s []) (filter keep (upto peers)))
  all_alike len size alike = alike_mapped (λ s. slice_index_or shares s []) (length (slice_index_or shares r [])) (filter keep (upto peers))
      (λ x i. at x (kept_below keep peers x i) ∙ sym (at r lt))
    where
      at : (s : ℕ) → s < peers → length (slice_index_or shares s []) ≡ len
      at s below = All-get_or (λ share. length share ≡ len) shares s [] (omega (arith, below, size)) alike

pub are_received : (peers : ℕ) (coll : Coll) (shares : List (List ℕ)) (r : ℕ) → AreShares peers coll shares → r < peers
    → AreReceived coll r (share_in coll shares r) (map (share_in coll shares) (senders peers coll r))
are_received peers Barrier shares r is lt = enough peers shares (λ s. needs Barrier r s) r (not_own r) (others_needed r) lt (share_in Barrier shares)
are_received peers (Broadcast root) shares r is lt = length-map (senders peers (Broadcast root) r) (share_in (Broadcast root) shares) ∙ go (r == root) refl
  where
    from : List ℕ
    from = senders peers (Broadcast root) r

    at : (x : ℕ) → In x (senders peers (Broadcast root) r) → ((r == x) ≡ false) × (x ≡ root)
    at x i = let parts = and_parts _ _ (filter_in (λ s. needs (Broadcast root) r s) (upto peers) x i).1 in (not_true (r == x) parts.0, eqb-true x root parts.1)

    go : (b : Bool) → (r == root) ≡ b → length (senders peers (Broadcast root) r) ≡ (if b then 0 else 1)
    go true e = no_member (senders peers (Broadcast root) r) (λ x i. let same : (r == x) ≡ (r == root) = ap (λ y. r == y) (at x i).1 in let no = (at x i).0 in absurd (cc (same, no, e)))
    go false e = root_alone root (senders peers (Broadcast root) r) (kept_apart (λ s. needs (Broadcast root) r s) peers)
        (kept_in (λ s. needs (Broadcast root) r s) peers root is.0 (ap₂ (λ (a b : Bool). not a && b) e (same_number root))) (λ x i. (at x i).1)
are_received peers Allgather shares r is lt = (
  enough peers shares (λ s. needs Allgather r s) r (not_own r) (others_needed r) lt (share_in Allgather shares),
  all_alike peers shares (λ s. needs Allgather r s) r (not_own r) (others_needed r) lt is.1.0 is.0 is.1.2,
)
are_received peers (Allreduce op num) shares r is lt = (
  enough peers shares (λ s. needs (Allreduce op num) r s) r (not_own r) (others_needed r) lt (share_in (Allreduce op num) shares),
  is.1,
  ap (λ n. n % element_size num) (All-get_or (λ share. length share ≡ is.2.0) shares r [] (omega (arith, lt, is.0)) is.2.3) ∙ is.2.2,
  all_alike peers shares (λ s. needs (Allreduce op num) r s) r (not_own r) (others_needed r) lt is.2.0 is.0 is.2.3,
)
