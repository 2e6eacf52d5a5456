-- Shares of a collective (fi_collective(3)): who needs them, and what they come to.
--     share_in coll shares s         the share of rank s; a rank that has none has no bytes
--     needs coll t s                 rank t needs the share of rank s
--     fold coll shares               what they come to
--     outcome_of coll rank own received      what a rank makes of its own share and of those that it needed, in order of ranks
--     AreShares peers coll shares    shares of so many ranks that may be folded; AreReceived: those that a rank has and received
use Rattle.std.specs.Prelude.{◌≡◌, ℕ, ◌<◌, ◌≤◌, ◌%◌, Bool, true, false, not, ◌&&◌, ◌==◌, if◌then◌else◌, List, [], ◌∷◌, ◌++◌, length, take, drop, All, slice_index_or}
use Rattle.std.specs.List.{concat}
use Rattle.fab_base.specs.Elements.{element_size}
use Rattle.fab_base.specs.declared.items.AtomicOp.{AtomicOp}
use Rattle.fab_base.specs.declared.items.AtomicOp.TheVariants.{Min, Max, Sum, Prod, Lor, Land, Lxor, Bor, Band, Bxor}
use Rattle.fab_base.specs.declared.items.Form.TheVariants.{Base}
use Rattle.fab_base.specs.declared.items.Num.{Num}
use Rattle.fab_model.specs.Target.{elements}
use Rattle.fab_fold.specs.declared.coll.TheConstants.{MOST_SHARE}
use Rattle.fab_fold.specs.declared.coll.Coll.{Coll}
use Rattle.fab_fold.specs.declared.coll.Coll.TheVariants.{Barrier, Broadcast, Allgather, Allreduce}

-- ---- shares

-- a broadcast has one share, the root's
abbrev pub share_in : Coll → List (List ℕ) → ℕ → List ℕ
share_in (Broadcast root) shares s = if s == root then slice_index_or shares 0 [] else []
share_in _ shares s = slice_index_or shares s []

-- in a broadcast all need the root's share, in every other round each needs the share of every other
abbrev pub needs : Coll → ℕ → ℕ → Bool
needs coll t s = not (t == s) && elim coll [ Broadcast root ↦ s == root | _ ↦ true ]

-- ---- what shares come to

-- each element is that of the first share, changed by the others' in turn (fi_atomic(3))
abbrev pub reduced_by : AtomicOp → Num → List ℕ → List (List ℕ) → List ℕ
reduced_by op num so_far [] = so_far
reduced_by op num so_far (share ∷ shares) = reduced_by op num (elements (length so_far) (record { op = op; num = num; form = Base }) so_far share []) shares

abbrev pub reduced : AtomicOp → Num → List (List ℕ) → List ℕ
reduced op num [] = []
reduced op num (share ∷ shares) = reduced_by op num share shares

unfoldable pub fold : Coll → List (List ℕ) → List ℕ
fold Barrier shares = []
fold (Broadcast root) shares = slice_index_or shares 0 []
fold Allgather shares = concat shares
fold (Allreduce op num) shares = reduced op num shares

-- all shares in order of ranks: its own stands at the rank's place among those of the others
abbrev pub among : ℕ → List ℕ → List (List ℕ) → List (List ℕ)
among rank own received = take rank received ++ own ∷ drop rank received

-- of a broadcast a rank has the root's share or received it
unfoldable pub outcome_of : Coll → ℕ → List ℕ → List (List ℕ) → List ℕ
outcome_of Barrier rank own received = []
outcome_of (Broadcast root) rank own received = if rank == root then own else slice_index_or received 0 []
outcome_of Allgather rank own received = fold Allgather (among rank own received)
outcome_of (Allreduce op num) rank own received = fold (Allreduce op num) (among rank own received)

-- ---- limits

-- the operations of fi_atomic(3) that take an operand and give a result of both
abbrev pub is_reducing : AtomicOp → Bool
is_reducing Min = true
is_reducing Max = true
is_reducing Sum = true
is_reducing Prod = true
is_reducing Lor = true
is_reducing Land = true
is_reducing Lxor = true
is_reducing Bor = true
is_reducing Band = true
is_reducing Bxor = true
is_reducing _ = false

abbrev pub AreAlike : ℕ → List (List ℕ) → Type 0
AreAlike len shares = All (λ share. length share ≡ len) shares

abbrev pub AreShares : ℕ → Coll → List (List ℕ) → Type 0
AreShares peers Barrier shares = shares ≡ []
AreShares peers (Broadcast root) shares = (root < peers) × (length shares ≡ 1) × (length (slice_index_or shares 0 []) ≤ MOST_SHARE)
AreShares peers Allgather shares = (length shares ≡ peers) × ((len : ℕ) × (len ≤ MOST_SHARE) × AreAlike len shares)
AreShares peers (Allreduce op num) shares =
    (length shares ≡ peers) × (is_reducing op ≡ true) × ((len : ℕ) × (len ≤ MOST_SHARE) × (len % element_size num ≡ 0) × AreAlike len shares)

-- what a rank has and received in such a round
abbrev pub AreReceived : Coll → ℕ → List ℕ → List (List ℕ) → Type 0
AreReceived Barrier rank own received = rank ≤ length received
AreReceived (Broadcast root) rank own received = length received ≡ (if rank == root then 0 else 1)
AreReceived Allgather rank own received = (rank ≤ length received) × AreAlike (length own) received
AreReceived (Allreduce op num) rank own received =
    (rank ≤ length received) × (is_reducing op ≡ true) × (length own % element_size num ≡ 0) × AreAlike (length own) received
