-- What a plain port holds.
use Rattle.std.specs.Prelude.{◌≡◌, ℕ, ◌<◌, ◌≤◌, Bool, true, false, List, [], length, take, drop, Option, Some, None, slice_get, slice_index_or, slice_set, if◌then◌else◌, nat_lt}
use mathlib.Core.List.{IsPrefix}
use Rattle.std.proofs.lemmas.List.{take-append-drop}
use Rattle.fab_base.specs.Counts.{counted}
use Rattle.fab_base.specs.declared.frames.FrameHead.{FrameHead}
use Rattle.fab_base.specs.declared.frames.Frame.{Frame}
use Rattle.fab_base.specs.declared.frames.FrameRef.{FrameRef}
use Rattle.fab_link.specs.Frames.{lent_frame, IsLane}
use Rattle.fab_link.specs.Meaning.{Outgoing, Incoming}

-- what was posted to one peer
pub record Posted : Type 0 where
  -- the head of the last frame before the list
  pub after : Option FrameHead
  pub frames : List Frame

-- both directions towards one peer
pub record Lane : Type 0 where
  pub out : Posted
  -- how many of the frames posted were moved out
  pub moved : ℕ
  pub in_after : Option FrameHead
  -- the frames brought, those taken first
  pub in_list : List Frame
  pub taken : ℕ
  pub is_lent : Bool
  pub empty_seen : ℕ
  pub empty_at : ℕ

-- the frames posted and not moved out
abbrev pub left : Lane → List Frame
left lane = drop lane.moved lane.out.frames

-- the lane in the words of the port: it is never full
abbrev pub outgoing : Lane → Outgoing
outgoing lane = record {
  after = lane.out.after;
  owed = None;
  frames = lane.out.frames;
  lane_full_seen = 0;
  pool_full_seen = 0;
  full_at = 0;
}

abbrev pub incoming : Lane → Incoming
incoming lane = record {
  after = lane.in_after;
  taken = take lane.taken lane.in_list;
  lent = if lane.is_lent then slice_get lane.in_list lane.taken else None;
  empty_seen = lane.empty_seen;
  empty_at = lane.empty_at;
}

-- what holds of the fields of a lane
pub record IsKept (out left in_list : List Frame) (moved taken : ℕ) (is_lent : Bool) (in_after : Option FrameHead) : Type 0 where
  pub left_is : left ≡ drop moved out
  pub moved_within : moved ≤ length out
  pub taken_within : taken ≤ length in_list
  pub lent_within : is_lent ≡ true → taken < length in_list
  pub cut : IsLane in_after in_list

-- what holds of every lane
pub record IsSoundLane (lane : Lane) : Type 0 where
  pub moved : lane.moved ≤ length lane.out.frames
  pub taken : lane.taken ≤ length lane.in_list
  pub lent : lane.is_lent ≡ true → lane.taken < length lane.in_list
  pub cut : IsLane lane.in_after lane.in_list

-- the lane after a look at its next frame
abbrev pub looked : Lane → Lane
looked lane =
    if nat_lt lane.taken (length lane.in_list)
    then record lane { is_lent = true }
    else record lane { empty_seen = counted lane.empty_seen; empty_at = lane.taken }

-- the frame that a reference lends, if any
abbrev pub lent_frames : Option FrameRef → Option Frame
lent_frames None = None
lent_frames (Some f) = Some (lent_frame f)

-- a lane with no frames behind these heads
abbrev pub fresh_lane : Option FrameHead → Option FrameHead → Lane
fresh_lane out_after in_after = record {
  out = record { after = out_after; frames = [] };
  moved = 0;
  in_after = in_after;
  in_list = [];
  taken = 0;
  is_lent = false;
  empty_seen = 0;
  empty_at = 0;
}

-- a plain port: its own number, and the lanes to all peers
pub record Plain : Type 0 where
  pub number : ℕ
  pub lanes : List Lane

abbrev pub lane_at : Plain → ℕ → Lane
lane_at p d = slice_index_or p.lanes d (fresh_lane None None)

abbrev pub out_of : Plain → ℕ → Outgoing
out_of p d = outgoing (lane_at p d)

abbrev pub in_of : Plain → ℕ → Incoming
in_of p d = incoming (lane_at p d)

-- the port with another lane to one peer
abbrev pub with_lane : Plain → ℕ → Lane → Plain
with_lane p d lane = record p { lanes = slice_set p.lanes d lane }

-- what the calls of a port leave of a plain port: its in lists, and how many frames of each list were moved out
pub record PlainHome : Type 0 where
  pub in_lists : ℕ → List Frame
  pub moved : ℕ → ℕ

abbrev pub home_of : Plain → PlainHome
home_of p = record { in_lists = λ s. (lane_at p s).in_list; moved = λ d. (lane_at p d).moved }

-- the first n members come first
pub take_prefix : {X : Type 0} (n : ℕ) (xs : List X) → IsPrefix (take n xs) xs
take_prefix n xs = (drop n xs, take-append-drop n xs)
