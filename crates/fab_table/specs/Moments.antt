-- The rule in a reader's words, of the table at one moment.
--     put, got           the two words of a lane: how many frames were posted, and how many taken
--     cell               what lies at the cell of the j-th frame of a lane
--     IsPartAt           the i-th part of the seat j
--     InStep             what a peer knows of the lanes between itself and another is so
--     FirstOf            what one peer took of another are the first of the frames posted to it
--     SlotStands         where a pool slot is
--     Owns               the slot is in a sender's hand, or goes with a frame that was posted, till it is free again
--     IsNumbered         a peer's frames are numbered
use Rattle.std.specs.Prelude.{◌≡◌, ℕ, ◌+◌, ◌*◌, ◌<◌, ◌≤◌, ◌⊎◌, true, length, map, slice_index, take, Some}
use mathlib.Core.List.{IsPrefix}
use mathlib.Core.Option.{some}
use lib.ListN.{get_elem?}
use Rattle.atomic_table.specs.Table.{State}
use Rattle.fab_link.specs.Merged.{IsStamped, posts_to, takes_of}
use Rattle.fab_table.specs.declared.kinds.Sent.{Sent}
use Rattle.fab_table.specs.declared.kinds.Layout.{Layout}
use Rattle.fab_table.specs.declared.kinds.Slot.{Slot}
use Rattle.fab_table.specs.declared.kinds.Part.{Part}
use Rattle.fab_table.specs.declared.kinds.View.{View}
use Rattle.fab_table.specs.Views.{out_at, in_at, lane_of, put_word, got_word, pool_word, pool_home}
use Rattle.fab_table.specs.Rule.{Home, Lane, IsBuf, FilledAt, cell_of, number, Place, free, claimed, sent}

abbrev pub put : State Slot View → ℕ → ℕ
put t l = slice_index t.words (put_word l)

abbrev pub got : State Slot View → ℕ → ℕ
got t l = slice_index t.words (got_word l)

abbrev pub cell : Layout → State Slot View → ℕ → ℕ → Home
cell k t l j = get_elem? t.homes (cell_of (l * k.room) k.room j)

abbrev pub IsPartAt : State Slot View → ℕ → ℕ → View → Type 0
IsPartAt t j i v = (get_elem? t.views j ≡ some v) × (i < length v.parts)

-- it knows how many frames it posted to the peer e, saw no more of them given back than were, and knows how many it took of e
abbrev pub InStep : Layout → State Slot View → Part → ℕ → Type 0
InStep k t p e = (length (out_at p e).posted ≡ put t (lane_of k.peers p.me e))
    × ((out_at p e).got_seen ≤ got t (lane_of k.peers p.me e))
    × (length (in_at p e).taken ≡ got t (lane_of k.peers e p.me))
    × ((in_at p e).put_seen ≤ put t (lane_of k.peers e p.me))

abbrev pub FirstOf : Part → Part → Type 0
FirstOf p q = IsPrefix (in_at q p.me).taken (out_at p q.me).posted

-- it knows what it posted to the peer e, and what it took of e: the first of what e posted
abbrev pub IsTold : Layout → State Slot View → (ℕ → Lane) → Part → ℕ → Type 0
IsTold k t lane p e = ((out_at p e).posted ≡ (lane (lane_of k.peers p.me e)).posted)
    × ((in_at p e).taken ≡ take (got t (lane_of k.peers e p.me)) (lane (lane_of k.peers e p.me)).posted)

-- each frame that a peer posts has the number after the greatest of those that it posted or took before, and these are the numbers of its frames
pub record IsNumbered (k : Layout) (p : Part) : Type 0 where
  pub stamped : IsStamped p.moves
  pub posts : (d : ℕ) → d < k.peers → posts_to d p.moves ≡ map number (out_at p d).posted
  pub takes : (s : ℕ) → s < k.peers → takes_of s p.moves ≡ map number (in_at p s).taken

-- The slot is free, and its buffer at home; or in the hand of the peer s, for the next frame to d; or with the j-th frame
-- from s to d, which is not taken, at home with the frame's bytes; or with the oldest, which is open, in the hand of d.
abbrev pub SlotStands : Layout → State Slot View → (ℕ → Lane) → ℕ → Place → Type 0
SlotStands k t lane q free = (slice_index t.words (pool_word k.peers q) ≡ 0) × ((y : Slot) × IsBuf y × (get_elem? t.homes (pool_home k.peers k.room q) ≡ some (some y)))
SlotStands k t lane q (claimed s d) = (slice_index t.words (pool_word k.peers q) ≡ s + 1) × (s < k.peers) × (d < k.peers) × ((lane (lane_of k.peers s d)).claim ≡ Some q)
SlotStands k t lane q (sent s d j) = (slice_index t.words (pool_word k.peers q) ≡ s + 1) × (s < k.peers) × (d < k.peers) × ((x : Sent) × (get_elem? (lane (lane_of k.peers s d)).posted j ≡ some x) × (x.slot ≡ Some q) × (got t (lane_of k.peers s d) ≤ j)
    × (((j ≡ got t (lane_of k.peers s d)) × ((lane (lane_of k.peers s d)).lent ≡ true)) ⊎ FilledAt x (get_elem? t.homes (pool_home k.peers k.room q))))

-- the slot is in the hand of the peer s, for the next frame to d; or the j-th frame from s to d has it, which is not taken, and whose slot was not freed
abbrev pub Owns : Layout → State Slot View → (ℕ → Lane) → ℕ → Place → Type 0
Owns k t lane q free = ⊥
Owns k t lane q (claimed s d) = (s < k.peers) × (d < k.peers) × ((lane (lane_of k.peers s d)).claim ≡ Some q)
Owns k t lane q (sent s d j) = (s < k.peers) × (d < k.peers) × ((x : Sent) × (x.slot ≡ Some q) × (got t (lane_of k.peers s d) ≤ j) × (get_elem? (lane (lane_of k.peers s d)).posted j ≡ some x)
    × (j ≡ got t (lane_of k.peers s d) → (lane (lane_of k.peers s d)).opened ≡ Some x → (lane (lane_of k.peers s d)).lent ≡ true))
