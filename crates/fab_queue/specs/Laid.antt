-- The lanes between all peers, as they are made.
--     row, column           the ends at which a peer posts, and those at which it takes
--     IsLaid                the two ends of one new lane
--     AreLaidFrom           one peer has new lanes to the first n
--     AreLaid               so have the first m peers to all
use Rattle.std.specs.Prelude.{◌≡◌, ℕ, zero, suc, ◌<◌, ◌≤◌, List, [], ◌∷◌, ◌++◌, length, slice_index_or, Vec}
use Rattle.std.specs.declared.alloc.Global.{Global}
use Rattle.fab_queue.specs.Ends.{Out, In, new_out, new_in}
use Rattle.fab_queue.specs.Ports.{no_lane}

-- the members of the k-th list, and none where there is no such list
abbrev pub members : {X : Type 0} → List (Vec X Global) → ℕ → List X
members [] k = []
members (v ∷ vs) zero = v.items
members (v ∷ vs) (suc k) = members vs k

abbrev pub row : List (Vec Out Global) → ℕ → List Out
row vs s = members vs s

abbrev pub column : List (Vec In Global) → ℕ → List In
column vs d = members vs d

abbrev pub out_in : List Out → ℕ → Out
out_in xs d = slice_index_or xs d (new_out no_lane 0)

abbrev pub in_in : List In → ℕ → In
in_in xs s = slice_index_or xs s (new_in no_lane)

-- the ends of one lane, which is empty and never was full
abbrev pub IsLaid : ℕ → Out → In → Type 0
IsLaid room o i = (o ≡ new_out i.lane room) × (i ≡ new_in i.lane)

pub record AreLaidFrom (room : ℕ) (old new : List (Vec In Global)) (outs : List Out) (n : ℕ) : Type 0 where
  pub count : length new ≡ length old
  pub outs_count : length outs ≡ n
  pub each : (d : ℕ) → d < n → (i : In) × IsLaid room (out_in outs d) i × (column new d ≡ column old d ++ i ∷ [])
  pub rest : (d : ℕ) → n ≤ d → column new d ≡ column old d

pub record AreLaid (room peers m : ℕ) (outs : List (Vec Out Global)) (ins : List (Vec In Global)) : Type 0 where
  pub rows : length outs ≡ m
  pub columns : length ins ≡ peers
  pub each_row : (s : ℕ) → s < m → length (row outs s) ≡ peers
  pub each_column : (d : ℕ) → d < peers → length (column ins d) ≡ m
  pub each : (s d : ℕ) → s < m → d < peers → IsLaid room (out_in (row outs s) d) (in_in (column ins d) s)
