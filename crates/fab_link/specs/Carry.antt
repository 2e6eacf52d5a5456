-- Frames carried between the plain ports of all peers.
use Rattle.std.specs.Prelude.{◌≡◌, ℕ, ◌<◌, ◌^◌, List, [], ◌++◌, length, slice_index_or}
use Rattle.std.specs.List.{sum_by}
use Rattle.fab_base.specs.declared.frames.Frame.{Frame}
use Rattle.fab_link.specs.Frames.{last_head, IsLane}
use Rattle.fab_link.specs.Plain.{Lane, Plain, lane_at, left}

-- the lane of port k to and from peer d
abbrev pub lane_of : List Plain → ℕ → ℕ → Lane
lane_of ports k d = lane_at (slice_index_or ports k (record { number = 0; lanes = [] })) d

-- what came from s at r, and then what s has left for r
abbrev pub pipe : List Plain → ℕ → ℕ → List Frame
pipe ports s r = (lane_of ports r s).in_list ++ left (lane_of ports s r)

-- how many frames the ports have left for one another
abbrev pub left_count : List Plain → ℕ
left_count ports = sum_by (λ p. sum_by (λ lane. length (left lane)) p.lanes) ports

-- these are the ports of all peers, in order
pub record AreAll (ports : List Plain) : Type 0 where
  pub few : length ports < 2 ^ 32
  pub numbers : (k : ℕ) → k < length ports → (slice_index_or ports k (record { number = 0; lanes = [] })).number ≡ k
  pub lanes : (k : ℕ) → k < length ports → length (slice_index_or ports k (record { number = 0; lanes = [] })).lanes ≡ length ports

-- what s has left for r continues what came from s at r
abbrev pub Continued : List Plain → ℕ → ℕ → Type 0
Continued ports s r = IsLane (last_head (lane_of ports r s).in_after (lane_of ports r s).in_list) (left (lane_of ports s r))

-- only what came and how much was moved out differs
abbrev pub SameBeside : Lane → Lane → Type 0
SameBeside old new = new ≡ record old { in_list = new.in_list; moved = new.moved }
