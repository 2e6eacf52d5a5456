-- What each rank makes of what it heard is the fold of all shares in order of ranks.
use Rattle.std.proofs.Common.{◌≡◌, ℕ, zero, suc, ◌+◌, ◌-◌, ◌*◌, ◌^◌, ◌<◌, ◌≤◌, ◌⊎◌, inl, inr, min, Bool, true, false, if◌then◌else◌, List, [], ◌∷◌, ◌++◌, length, map, take, drop, slice_index_or, Option, None, refl, sym, ap, ap₂, ◌∙◌, subst, arith, append-nil, append_assoc}
use Rattle.std.specs.List.{concat, range_with_len}
use Rattle.std.proofs.lemmas.List.{drop_at, take_at}
use Rattle.std.proofs.lemmas.List.FromFn.{length-map-range_with_len, map-range_with_len_more}
use Rattle.fab_fold.specs.declared.coll.Coll.{Coll}
use Rattle.fab_fold.specs.declared.coll.Coll.TheVariants.{Barrier, Broadcast, Allgather, Allreduce}
use Rattle.fab_topology.specs.declared.kinds.Topology.TheVariants.{Mesh, Dissemination}
use Rattle.fab_fold.specs.Shares.{among, fold, outcome_of}
use Rattle.fab_topology.specs.declared.kinds.Topology.{Topology}
use Rattle.fab_topology.specs.Rounds.{behind, distance, is_doubling, root_of, rounds_of, source_by, source_of, waits_for, width}
use Rattle.fab_topology.proofs.Pairs.{each_is_told}
use Rattle.fab_topology.proofs.Tiles.{each_tiles}
use Rattle.fab_collectives.specs.Folded.{AreSaid, AreShared, EachIsFolded, at_rank}
use Rattle.fab_collectives.specs.Routes.{heard_within, is_doubled, others_of, topology_by}
use Rattle.fab_collectives.specs.declared.collective.Work.{Work}
use Rattle.fab_collectives.proofs.Ring.{bytes, share_at}
use Rattle.fab_collectives.proofs.Saying.{all_said}

-- ---- lists by rank

cong : (g h : ℕ → List ℕ) (a n : ℕ) → ((i : ℕ) → a ≤ i → i < a + n → g i ≡ h i) → map g (range_with_len a n) ≡ map h (range_with_len a n)
cong g h a zero each = refl
cong g h a (suc n) each = let e : suc n ≡ n + 1 = omega arith in
    ap (λ (k : ℕ). map g (range_with_len a k)) e ∙ map-range_with_len_more g a n (a + n) refl
    ∙ ap₂ (λ (xs : List (List ℕ)) (y : List ℕ). xs ++ y ∷ []) (cong g h a n (λ i from below. each i from (omega arith))) (each (a + n) (omega arith) (omega arith))
    ∙ sym (ap (λ (k : ℕ). map h (range_with_len a k)) e ∙ map-range_with_len_more h a n (a + n) refl)

in_a_row : (f : ℕ → List ℕ) (a m n b k : ℕ) → a + m ≡ b → m + n ≡ k → map f (range_with_len a m) ++ map f (range_with_len b n) ≡ map f (range_with_len a k)
in_a_row f a m zero b k at sum = let same : m ≡ k = omega arith in append-nil (map f (range_with_len a m)) ∙ ap (λ (k : ℕ). map f (range_with_len a k)) same
in_a_row f a m (suc n) b k at sum = let e : suc n ≡ n + 1 = omega arith in let more : m + n + 1 ≡ k = omega arith in
    ap (λ (i : ℕ). map f (range_with_len a m) ++ map f (range_with_len b i)) e
    ∙ ap (λ (ys : List (List ℕ)). map f (range_with_len a m) ++ ys) (map-range_with_len_more f b n (b + n) refl)
    ∙ sym (append_assoc (map f (range_with_len a m)) (map f (range_with_len b n)) (f (b + n) ∷ []))
    ∙ ap (λ (xs : List (List ℕ)). xs ++ f (b + n) ∷ []) (in_a_row f a m n b (m + n) at refl)
    ∙ sym (map-range_with_len_more f a (m + n) (b + n) (omega arith))
    ∙ ap (λ (k : ℕ). map f (range_with_len a k)) more

-- the own share among those of the others
in_order : (f : ℕ → List ℕ) (p r : ℕ) → r < p
    → among r (f r) (map f (range_with_len 0 r) ++ map f (range_with_len (r + 1) (p - (r + 1)))) ≡ map f (range_with_len 0 p)
in_order f p r there = let xs = map f (range_with_len 0 r) in let ys = map f (range_with_len (r + 1) (p - (r + 1))) in
    let count = length-map-range_with_len f 0 r in
    ap₂ (λ (us vs : List (List ℕ)). us ++ f r ∷ vs) (take_at xs ys r count) (drop_at xs ys r count)
    ∙ ap (λ (vs : List (List ℕ)). xs ++ vs) (in_a_row f r 1 (p - (r + 1)) (r + 1) (p - r) refl (omega arith))
    ∙ in_a_row f 0 r (p - r) r p (omega arith) (omega arith)

-- ---- any topology without a root

waits : (T : Topology) (p k : ℕ) → (waits_for T k ≡ k) ⊎ ((waits_for T k ≡ 0) × (width T p k ≡ 1))
waits T p k = by (is_doubling T)
  where
    by : (b : Bool) → ((if b then k else 0) ≡ k) ⊎ (((if b then k else 0) ≡ 0) × ((if b then min (2 ^ k) (p - 2 ^ k) else 1) ≡ 1))
    by true = inl refl
    by false = inr (refl, refl)

module _ (T : Topology) (none : root_of T ≡ None) (p len : ℕ) (f : ℕ → List ℕ) (heard : ℕ → List (List ℕ)) (most : p ≤ 2 ^ 32) (alike : (r : ℕ) → r < p → length (f r) ≡ len)
    (count : (r : ℕ) → r < p → length (heard r) ≡ rounds_of T p)
    (said : (r k : ℕ) → r < p → k < rounds_of T p
    → slice_index_or (heard r) k [] ≡ f (source_of T p r k) ++ heard_within T len (heard (source_of T p r k)) (width T p k) (waits_for T k))
    (r : ℕ) (there : r < p) where
  joined : f r ++ concat (heard r) ≡ bytes p len f r 0 p
  joined = all_said T (rounds_of T p) p len f heard (each_tiles T p most) alike
      (λ r k there at. subst (λ (s : ℕ). slice_index_or (heard r) k [] ≡ f s ++ heard_within T len (heard s) (width T p k) (waits_for T k))
      (ap (λ (root : Option ℕ). source_by root p r (distance T k)) none) (said r k there at))
      (λ k at. waits T p k) r there (count r there)

  share : (s : ℕ) → s < p → take (length (f r)) (drop (behind p s r * length (f r)) (f r ++ concat (heard r))) ≡ f s
  share s last = ap₂ (λ (l : ℕ) (xs : List ℕ). take l (drop (behind p s r * l) xs)) (alike r there) joined ∙ share_at p len f alike r there s last

  abbrev taken : ℕ → List ℕ
  taken s = take (length (f r)) (drop (behind p s r * length (f r)) (f r ++ concat (heard r)))

  pub folded : among r (f r) (map (λ s. taken s) (range_with_len 0 r) ++ map (λ s. taken s) (range_with_len (r + 1) (p - (r + 1)))) ≡ map f (range_with_len 0 p)
  folded = ap₂ (λ (xs ys : List (List ℕ)). among r (f r) (xs ++ ys))
      (cong (λ s. taken s) f 0 r (λ i from below. share i (omega arith))) (cong (λ s. taken s) f (r + 1) (p - (r + 1)) (λ i from below. share i (omega arith)))
      ∙ in_order f p r there

-- ---- an allgather and an allreduce

plain : (b : Bool) → root_of (topology_by Allgather b) ≡ None
plain true = refl
plain false = refl

source_below : (b : Bool) (p r k : ℕ) → p ≤ 2 ^ 32 → r < p → k < rounds_of (topology_by Allgather b) p → source_of (topology_by Allgather b) p r k < p
source_below true p r k most there at = (each_is_told Dissemination p r k (tt, most) there at refl).0
source_below false p r k most there at = (each_is_told Mesh p r k (tt, most) there at refl).0

-- where a message is told of shares of so many bytes
abbrev Told : ℕ → ℕ → (ℕ → List ℕ) → (ℕ → List (List ℕ)) → ℕ → ℕ → ℕ → Type 0
Told p l f heard r k s = let T = topology_by Allgather (is_doubled Allgather p l) in
    slice_index_or (heard r) k [] ≡ f s ++ heard_within T l (heard s) (width T p k) (waits_for T k)

shared : (p len : ℕ) (f : ℕ → List ℕ) (heard : ℕ → List (List ℕ)) → p ≤ 2 ^ 32 → ((r : ℕ) → r < p → length (f r) ≡ len)
    → ((r : ℕ) → r < p → length (heard r) ≡ rounds_of (topology_by Allgather (is_doubled Allgather p len)) p)
    → ((r k : ℕ) → r < p → k < rounds_of (topology_by Allgather (is_doubled Allgather p len)) p
    → Told p (length (f (source_of (topology_by Allgather (is_doubled Allgather p len)) p r k))) f heard r k (source_of (topology_by Allgather (is_doubled Allgather p len)) p r k))
    → (r : ℕ) → r < p
    → among r (f r) (map (λ s. take (length (f r)) (drop (behind p s r * length (f r)) (f r ++ concat (heard r)))) (range_with_len 0 r)
    ++ map (λ s. take (length (f r)) (drop (behind p s r * length (f r)) (f r ++ concat (heard r)))) (range_with_len (r + 1) (p - (r + 1)))) ≡ map f (range_with_len 0 p)
shared p len f heard most alike count said r there =
    folded (topology_by Allgather (is_doubled Allgather p len)) (plain (is_doubled Allgather p len)) p len f heard most alike count
    (λ r k there at. let s = source_of (topology_by Allgather (is_doubled Allgather p len)) p r k in
    subst (λ (l : ℕ). Told p l f heard r k s) (alike s (source_below (is_doubled Allgather p len) p r k most there at)) (said r k there at)) r there

abbrev Body : Work → Type 0
Body work = (len : ℕ) (shares : ℕ → List ℕ) (heard : ℕ → List (List ℕ)) → AreShared work.coll → work.peers ≤ 2 ^ 32 → AreSaid work len shares heard
    → (r : ℕ) → r < work.peers
    → outcome_of work.coll r (shares r) (others_of (at_rank work r) (shares r) (heard r)) ≡ fold work.coll (map shares (range_with_len 0 work.peers))

at_coll : (coll : Coll) (rank p tag : ℕ) → Body (record { coll = coll; rank = rank; peers = p; tag = tag })
unfolding outcome_of
at_coll Barrier rank p tag len f heard never most said r there = absurd never
at_coll (Broadcast root) rank p tag len f heard never most said r there = absurd never
at_coll Allgather rank p tag len f heard shared_by_all most said r there =
    ap (fold Allgather) (shared p len f heard most (λ r there. (said r there).0) (λ r there. (said r there).1) (λ r k there at. (said r there).2 k at) r there)
at_coll (Allreduce op num) rank p tag len f heard shared_by_all most said r there =
    ap (fold (Allreduce op num)) (shared p len f heard most (λ r there. (said r there).0) (λ r there. (said r there).1) (λ r k there at. (said r there).2 k at) r there)

pub each_is_folded : EachIsFolded
each_is_folded work = at_coll work.coll work.rank work.peers work.tag
