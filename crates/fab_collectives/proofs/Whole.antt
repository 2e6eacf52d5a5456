-- Where the messages are as long as the shares that they bring, the shares of the others have the own length.
use Rattle.std.proofs.Common.{◌≡◌, ℕ, zero, suc, ◌+◌, ◌-◌, ◌*◌, ◌<◌, ◌≤◌, Bool, true, false, ◌==◌, if◌then◌else◌, List, [], ◌∷◌, ◌++◌, length, map, drop, get_or, refl, sym, ap, ◌∙◌, subst, arith, zero-add, length-append, length-drop}
use Rattle.std.proofs.lemmas.List.{length-take}
use Rattle.std.proofs.lemmas.List.Elements.{All-append}
use Rattle.std.proofs.lemmas.List.FromFn.{get_or-map-range_with_len, length-map-range_with_len}
use Rattle.std.proofs.lemmas.Nat.{mul-le}
use Rattle.std.proofs.Math.Nat.{add-mul}
use Rattle.std.specs.List.{concat, range_with_len}
use Rattle.fab_fold.specs.declared.coll.Coll.{Coll}
use Rattle.fab_fold.specs.declared.coll.Coll.TheVariants.{Barrier, Broadcast, Allgather, Allreduce}
use Rattle.fab_fold.specs.Shares.{AreAlike, AreReceived}
use Rattle.fab_topology.specs.Laws.{Tiles, reach}
use Rattle.fab_topology.specs.Rounds.{behind, distance, width}
use Rattle.fab_topology.proofs.Steps.{behind_below}
use Rattle.fab_collectives.specs.Lengths.{AreMessages, AreWhole, AreWholeBy}
use Rattle.fab_collectives.specs.Routes.{joined_by, joined_of, load_by, others_by, others_of, rounds_in, share_of, topology_of}
use Rattle.fab_collectives.specs.declared.collective.Work.{Work}

module _ (R p len : ℕ) (d w : ℕ → ℕ) (tiles : Tiles R d w p) (some : 1 ≤ p) where
  pub reach_all : reach d w R ≡ p
  reach_all = by R refl
    where
      by : (r : ℕ) → R ≡ r → reach d w R ≡ p
      by zero none = let all = tiles.all in let one : reach d w R ≡ 1 = ap (λ (n : ℕ). reach d w n) none in omega arith
      by (suc m) last = let all = tiles.all in let within = tiles.within m (omega arith) in
          let far : reach d w R ≡ d m + w m = ap (λ (n : ℕ). reach d w n) last in omega arith

  length_from : (xs : List (List ℕ)) (k : ℕ) → k + length xs ≡ R → ((j i : ℕ) → j < length xs → k + j ≡ i → length (get_or xs j []) ≡ w i * len)
      → length (concat xs) + reach d w k * len ≡ reach d w R * len
  length_from [] k end each = let same : k ≡ R = omega arith in zero-add (reach d w k * len) ∙ ap (λ (n : ℕ). reach d w n * len) same
  length_from (x ∷ xs) k end each = let next = tiles.next k (omega arith) in
      let rest : length (concat xs) + (d k + w k) * len ≡ reach d w R * len = length_from xs (suc k) (omega arith) (λ j i below is. each (suc j) i (omega arith) (omega arith)) in
      let first : length x ≡ w k * len = each zero k (omega arith) (omega arith) in
      let both = add-mul (d k) (w k) len in
      let before : d k * len ≡ reach d w k * len = ap (λ (n : ℕ). n * len) next in
      let sum = length-append x (concat xs) in omega arith

  pub length_joined : (own : List ℕ) (received : List (List ℕ)) → length own ≡ len → length received ≡ R
      → ((k : ℕ) → k < R → length (get_or received k []) ≡ w k * len) → length (own ++ concat received) ≡ p * len
  length_joined own received is count each = let all = length_from received 0 (omega arith) (λ j i below same. subst (λ (i : ℕ). length (get_or received j []) ≡ w i * len) (turned j i same) (each j (omega arith))) in
      let reached : reach d w R * len ≡ p * len = ap (λ (n : ℕ). n * len) reach_all in
      let sum = length-append own (concat received) in omega arith
    where
      turned : (j i : ℕ) → 0 + j ≡ i → j ≡ i
      turned j i same = omega arith

module _ (work : Work) (len : ℕ) (joined : List ℕ) (there : work.rank < work.peers) (long : length joined ≡ work.peers * len) where
  pub length_share : (s : ℕ) → s < work.peers → length (share_of work len joined s) ≡ len
  length_share s below = let steps = behind work.peers s work.rank in let near = behind_below work.peers s work.rank below (omega arith) in
      let most = mul-le (steps + 1) len work.peers len (omega arith) (omega arith) in
      let both = add-mul steps 1 len in
      let dropped = length-drop (steps * len) joined in
      let taken = length-take len (drop (steps * len) joined) in omega arith

  pub alike : (a n : ℕ) → a + n ≤ work.peers → AreAlike len (map (λ s. share_of work len joined s) (range_with_len a n))
  alike a n within i share below = let count = length-map-range_with_len (λ s. share_of work len joined s) a n in
      subst (λ (xs : List ℕ). length xs ≡ len) (sym (get_or-map-range_with_len (λ s. share_of work len joined s) a n i (a + i) share (omega arith) refl)) (length_share (a + i) (omega arith))

  pub all_alike : AreAlike len (map (λ s. share_of work len joined s) (range_with_len 0 work.rank) ++ map (λ s. share_of work len joined s) (range_with_len (work.rank + 1) (work.peers - (work.rank + 1))))
  all_alike = All-append (λ (share : List ℕ). length share ≡ len) (map (λ s. share_of work len joined s) (range_with_len 0 work.rank)) (map (λ s. share_of work len joined s) (range_with_len (work.rank + 1) (work.peers - (work.rank + 1))))
      (alike 0 work.rank (omega arith)) (alike (work.rank + 1) (work.peers - (work.rank + 1)) (omega arith))

module _ (work : Work) (own : List ℕ) (received : List (List ℕ)) where
  before : (f : ℕ → List ℕ) (ys : List (List ℕ)) → work.rank ≤ length (map f (range_with_len 0 work.rank) ++ ys)
  before f ys = let count = length-map-range_with_len f 0 work.rank in let sum = length-append (map f (range_with_len 0 work.rank)) ys in omega arith

  abbrev Rounds : Type 0
  Rounds = Tiles (rounds_in work (length own)) (λ k. distance (topology_of work (length own)) k) (λ k. width (topology_of work (length own)) work.peers k) work.peers

  long : Rounds → (coll : Coll) → work.coll ≡ coll → joined_by coll work.rank own received ≡ own ++ concat received
      → ((k : ℕ) → load_by coll (width (topology_of work (length own)) work.peers k) ≡ width (topology_of work (length own)) work.peers k)
      → work.rank < work.peers → AreMessages work (length own) received → length (joined_of work own received) ≡ work.peers * length own
  long tiles coll is all loads there messages = let one = ap (λ (c : Coll). joined_by c work.rank own received) is in
      ap length (one ∙ all)
      ∙ length_joined (rounds_in work (length own)) work.peers (length own) (λ k. distance (topology_of work (length own)) k) (λ k. width (topology_of work (length own)) work.peers k) tiles (omega arith)
      own received refl messages.0 (λ k at. messages.1 k at ∙ ap (λ (n : ℕ). n * length own) (ap (λ (c : Coll). load_by c (width (topology_of work (length own)) work.peers k)) is ∙ loads k))

  one_share : (b : Bool) (joined : List ℕ) → length (if b then [] else joined ∷ []) ≡ (if b then 0 else 1)
  one_share true joined = refl
  one_share false joined = refl

  pub whole_received : Rounds → AreWhole work own received → AreReceived work.coll work.rank own (others_of work own received)
  whole_received tiles whole = by work.coll refl whole
    where
      by : (coll : Coll) → work.coll ≡ coll → AreWholeBy coll work own received → AreReceived coll work.rank own (others_by coll work own received)
      by Barrier is whole = before (λ s. share_of work (length own) (joined_of work own received) s) _
      by (Broadcast root) is whole = one_share (work.rank == root) (joined_of work own received)
      by Allgather is whole = (
        before (λ s. share_of work (length own) (joined_of work own received) s) _,
        all_alike work (length own) (joined_of work own received) whole.0 (long tiles Allgather is refl (λ k. refl) whole.0 whole.1),
      )
      by (Allreduce op num) is whole = (
        before (λ s. share_of work (length own) (joined_of work own received) s) _,
        whole.0,
        whole.1,
        all_alike work (length own) (joined_of work own received) whole.2 (long tiles (Allreduce op num) is refl (λ k. refl) whole.2 whole.3),
      )
