-- Of a broadcast what each rank has, once it heard, is the root's share.
use Rattle.std.proofs.Common.{◌≡◌, ℕ, zero, suc, ◌<◌, ◌≤◌, ◌⊎◌, inl, inr, Bool, true, false, if◌then◌else◌, ◌^◌, ◌==◌, List, [], ◌∷◌, ◌++◌, length, slice_index_or, refl, sym, ap, ap₂, ◌∙◌, subst, arith, append-nil}
use Rattle.std.specs.List.{concat}
use Rattle.std.proofs.lemmas.Bool.{cases_Bool, cases_lt, eqb-true, eqb-false}
use Rattle.std.proofs.lemmas.List.{get_or_past}
use Rattle.fab_fold.specs.Shares.{outcome_of}
use Rattle.fab_fold.specs.declared.coll.Coll.{Coll}
use Rattle.fab_fold.specs.declared.coll.Coll.TheVariants.{Broadcast}
use Rattle.fab_topology.specs.declared.kinds.Topology.{Topology}
use Rattle.fab_topology.specs.declared.kinds.Topology.TheVariants.{Star, Tree}
use Rattle.fab_topology.specs.Laws.{AreRanks, HeardBy, IsFor}
use Rattle.fab_topology.specs.Rounds.{behind, distance, hears, is_doubling, root_of, rounds_of, source_of, width}
use Rattle.fab_topology.proofs.Pairs.{each_is_told, once_from}
use Rattle.fab_topology.proofs.Reaching.{all_hear}
use Rattle.fab_topology.proofs.Tiles.{each_tiles}
use Rattle.fab_collectives.specs.Folded.{AreRelayed, EachIsTheRoots, IsHad, at_rank}
use Rattle.fab_collectives.specs.Routes.{is_doubled, others_of, topology_by}
use Rattle.fab_collectives.specs.declared.collective.Work.{Work}

-- ---- lists of which one alone is not empty

all_empty : (xs : List (List ℕ)) → ((j : ℕ) → slice_index_or xs j [] ≡ []) → concat xs ≡ []
all_empty [] each = refl
all_empty (x ∷ xs) each = ap₂ (λ (ys zs : List ℕ). ys ++ zs) (each zero) (all_empty xs (λ j. each (suc j)))

one_alone : (xs : List (List ℕ)) (n : ℕ) → ((j : ℕ) → (j ≡ n → ⊥) → slice_index_or xs j [] ≡ []) → concat xs ≡ slice_index_or xs n []
one_alone [] n others = refl
one_alone (x ∷ xs) zero others = ap (λ (zs : List ℕ). x ++ zs) (all_empty xs (λ j. others (suc j) (λ e. let no : 1 ≤ 0 = omega arith in omega arith))) ∙ append-nil x
one_alone (x ∷ xs) (suc n) others =
    ap (λ (ys : List ℕ). ys ++ concat xs) (others zero (λ e. let no : 1 ≤ 0 = omega arith in omega arith))
    ∙ one_alone xs n (λ j other. others (suc j) (λ e. other (omega arith)))

-- ---- from rank to rank

module _ (R p root : ℕ) (hear : ℕ → ℕ → Bool) (source : ℕ → ℕ → ℕ) (shares : ℕ → List ℕ) (heard : ℕ → List (List ℕ))
    (inside : (r k : ℕ) → r < p → k < R → hear r k ≡ true → source r k < p)
    (once : (r j k : ℕ) → r < p → j < R → k < R → hear r j ≡ true → hear r k ≡ true → j ≡ k) where
  -- what rank r tells, and what it has
  abbrev has : ℕ → List (List ℕ) → List ℕ
  has r had = if r == root then shares r else concat had

  abbrev Told : Bool → Type 0
  Told doubles = (r k : ℕ) → r < p → k < R → hear r k ≡ true
      → (had : List (List ℕ)) × IsHad (if doubles then k else 0) (heard (source r k)) had × (slice_index_or (heard r) k [] ≡ has (source r k) had)

  module _ (count : (r : ℕ) → r < p → length (heard r) ≡ R) (silent : (r k : ℕ) → r < p → k < R → hear r k ≡ false → slice_index_or (heard r) k [] ≡ []) where
    at_root : (r : ℕ) (had : List (List ℕ)) → r ≡ root → has r had ≡ shares root
    at_root r had is = by (r == root) refl
      where
        by : (b : Bool) → (r == root) ≡ b → (if b then shares r else concat had) ≡ shares root
        by true same = ap shares is
        by false other = absurd (eqb-false r root other is)

    -- in a round other than the one in which it hears
    empty : (r n j : ℕ) → r < p → n < R → hear r n ≡ true → (j ≡ n → ⊥) → slice_index_or (heard r) j [] ≡ []
    empty r n j there at told other = by (cases_lt j R)
      where
        among : j < R → (hear r j ≡ true) ⊎ (hear r j ≡ false) → slice_index_or (heard r) j [] ≡ []
        among below (inl hears) = absurd (other (once r j n there below at hears told))
        among below (inr not) = silent r j there below not

        by : (j < R) ⊎ (R ≤ j) → slice_index_or (heard r) j [] ≡ []
        by (inl below) = among below (cases_Bool (hear r j))
        by (inr past) = let all = count r there in get_or_past (heard r) j [] (omega arith)

    -- what it has once it heard is what it heard
    has_heard : (r n first : ℕ) (had : List (List ℕ)) → r < p → n < R → hear r n ≡ true → n < first → IsHad first (heard r) had
        → slice_index_or (heard r) n [] ≡ shares root → has r had ≡ shares root
    has_heard r n first had there at told before of is = by (r == root) refl
      where
        other : (j : ℕ) → (j ≡ n → ⊥) → slice_index_or had j [] ≡ []
        other j not = by (of j)
          where
            by : (slice_index_or had j [] ≡ slice_index_or (heard r) j []) ⊎ ((first ≤ j) × (slice_index_or had j [] ≡ [])) → slice_index_or had j [] ≡ []
            by (inl same) = same ∙ empty r n j there at told not
            by (inr none) = none.1

        one : (slice_index_or had n [] ≡ slice_index_or (heard r) n []) ⊎ ((first ≤ n) × (slice_index_or had n [] ≡ [])) → slice_index_or had n [] ≡ shares root
        one (inl same) = same ∙ is
        one (inr none) = let late = none.0 in absurd (let no : 1 ≤ 0 = omega arith in omega arith)

        by : (b : Bool) → (r == root) ≡ b → (if b then shares r else concat had) ≡ shares root
        by true same = ap shares (eqb-true r root same)
        by false not = one_alone had n other ∙ one (of n)

    pub has_roots : (doubles : Bool) → Told doubles → (n r first : ℕ) (had : List (List ℕ)) → n ≤ R → n ≤ first → r < p → IsHad first (heard r) had
        → HeardBy doubles hear source root n r → has r had ≡ shares root
    has_roots true told zero r first had upto before there of same = at_root r had same
    has_roots false told zero r first had upto before there of same = at_root r had same
    has_roots true told (suc n) r first had upto before there of (inl earlier) = has_roots true told n r first had (omega arith) (omega arith) there of earlier
    has_roots false told (suc n) r first had upto before there of (inl earlier) = has_roots false told n r first had (omega arith) (omega arith) there of earlier
    has_roots true told (suc n) r first had upto before there of (inr (hears, earlier)) = let it = told r n there (omega arith) hears in
        has_heard r n first had there (omega arith) hears (omega arith) of
        (it.2 ∙ has_roots true told n (source r n) n it.0 (omega arith) (omega arith) (inside r n there (omega arith) hears) it.1 earlier)
    has_roots false told (suc n) r first had upto before there of (inr (hears, same)) = let it = told r n there (omega arith) hears in
        has_heard r n first had there (omega arith) hears (omega arith) of (it.2 ∙ at_root (source r n) it.0 same)

-- ---- a broadcast

are : (root p : ℕ) (b : Bool) → root < p → p ≤ 2 ^ 32 → AreRanks (topology_by (Broadcast root) b) p
are root p true first most = (first, most)
are root p false first most = (first, most)

for : (root : ℕ) (b : Bool) → IsFor (root_of (topology_by (Broadcast root) b)) root
for root true = refl
for root false = refl

-- no rank hears in two rounds
once : (root p : ℕ) (b : Bool) → p ≤ 2 ^ 32 → let T = topology_by (Broadcast root) b in
    (r j k : ℕ) → r < p → j < rounds_of T p → k < rounds_of T p → hears T p r j ≡ true → hears T p r k ≡ true → j ≡ k
once root p true most r j k there x y one two =
    once_from (rounds_of (Tree root) p) (λ k. distance (Tree root) k) (λ k. width (Tree root) p k) p (each_tiles (Tree root) p most) (behind p r root) j k x y one two
once root p false most r j k there x y one two =
    once_from (rounds_of (Star root) p) (λ k. distance (Star root) k) (λ k. width (Star root) p k) p (each_tiles (Star root) p most) (behind p r root) j k x y one two

abbrev Body : ℕ → Work → Type 0
Body root work = (len : ℕ) (shares : ℕ → List ℕ) (heard : ℕ → List (List ℕ)) → root < work.peers → work.peers ≤ 2 ^ 32 → AreRelayed work len shares heard
    → (r : ℕ) → r < work.peers → outcome_of work.coll r (shares r) (others_of (at_rank work r) (shares r) (heard r)) ≡ shares root

abbrev goes : ℕ → ℕ → ℕ → Topology
goes root p len = topology_by (Broadcast root) (is_doubled (Broadcast root) p len)

at_broadcast : (root rank p tag : ℕ) → Body root (record { coll = Broadcast root; rank = rank; peers = p; tag = tag })
unfolding outcome_of
at_broadcast root rank p tag len shares heard first most relayed r there = by (r == root) refl
  where
    fits : AreRanks (goes root p len) p
    fits = are root p (is_doubled (Broadcast root) p len) first most

    all : (if r == root then shares r else concat (heard r)) ≡ shares root
    all = has_roots (rounds_of (goes root p len) p) p root (λ r k. hears (goes root p len) p r k) (λ r k. source_of (goes root p len) p r k) shares heard
        (λ r k there at hears. (each_is_told (goes root p len) p r k fits there at hears).0) (once root p (is_doubled (Broadcast root) p len) most)
        (λ r there. (relayed r there).0) (λ r k there at not. ((relayed r there).1 k at).1 not)
        (is_doubling (goes root p len)) (λ r k there at hears. ((relayed r there).1 k at).0 hears)
        (rounds_of (goes root p len) p) r (rounds_of (goes root p len) p) (heard r) (omega arith) (omega arith) there (λ k. inl refl)
        (all_hear (goes root p len) p root r fits (for root (is_doubled (Broadcast root) p len)) first there)

    by : (b : Bool) → (r == root) ≡ b → (if b then shares r else slice_index_or (if b then [] else (if b then shares r else concat (heard r)) ∷ []) 0 []) ≡ shares root
    by true same = ap shares (eqb-true r root same)
    by false other = sym (ap (λ (b : Bool). if b then shares r else concat (heard r)) other) ∙ all

pub each_is_the_roots : EachIsTheRoots
each_is_the_roots work root len shares heard is first most relayed r there =
    subst (λ (coll : Coll). Body root (record { coll = coll; rank = work.rank; peers = work.peers; tag = work.tag })) (sym is)
    (at_broadcast root work.rank work.peers work.tag) len shares heard first most relayed r there
