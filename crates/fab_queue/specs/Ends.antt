-- The two ends of a lane.
--     Out, In                what is known at each end
--     seen_full              a post found the lane full
--     Looked, taken_one      a look, and a step over the frame that is lent
--     none_found             a look that found no frame in the queue
--     MayPut, MayGet         what an end keeps, and what its pass knows
use Rattle.std.specs.Prelude.{◌≡◌, ℕ, ◌+◌, ◌⊎◌, true, List, [], ◌∷◌, ◌++◌, length, Option, Some, None, option_to_list}
use Rattle.atomic_table.specs.Seated.{TableId}
use Rattle.fab_base.specs.declared.frames.FrameHead.{FrameHead}
use Rattle.fab_base.specs.declared.frames.Frame.{Frame}
use Rattle.fab_link.specs.Frames.{last_head}
use Rattle.fab_queue.specs.declared.lane.Sent.{Sent}
use Rattle.fab_queue.specs.declared.lane.Log.{Log}
use Rattle.fab_queue.specs.Lanes.{frames_of, Continues}

-- how often a post found the lane full, and how many frames were posted at the last time
pub record Sight : Type 0 where
  pub seen : ℕ
  pub at : ℕ

abbrev pub unseen : Sight
unseen = record { seen = 0; at = 0 }

-- the frames taken, how often a look found none, and how many were taken at the last time
pub record Taken : Type 0 where
  pub frames : List Sent
  pub empty_seen : ℕ
  pub empty_at : ℕ

abbrev pub none_taken : Taken
none_taken = record { frames = []; empty_seen = 0; empty_at = 0 }

pub record Out : Type 0 where
  -- which queue it is
  pub lane : TableId
  -- how many frames the queue holds at most
  pub room : ℕ
  pub posted : List Sent
  pub full_seen : ℕ
  pub full_at : ℕ

pub record In : Type 0 where
  pub lane : TableId
  pub taken : List Sent
  pub lent : Option Sent
  pub empty_seen : ℕ
  pub empty_at : ℕ

abbrev pub new_out : TableId → ℕ → Out
new_out lane room = record { lane = lane; room = room; posted = []; full_seen = 0; full_at = 0 }

abbrev pub new_in : TableId → In
new_in lane = record { lane = lane; taken = []; lent = None; empty_seen = 0; empty_at = 0 }

abbrev pub seen_full : Out → Out
seen_full o = record o { full_seen = o.full_seen + 1; full_at = length o.posted }

abbrev pub frame_in : Option Sent → Option Frame
frame_in None = None
frame_in (Some x) = Some x.frame

abbrev pub taken_one : In → Sent → In
taken_one i x = record i { taken = i.taken ++ x ∷ []; lent = None }

-- one pop more of the queue found none: it is on record, with how many frames were taken
abbrev pub none_found : In → In
none_found i = record i { empty_seen = i.empty_seen + 1; empty_at = length i.taken }

-- a frame that is lent stays; else one came, or a pop found none
abbrev pub LookedAt : Option Sent → In → In → Type 0
LookedAt (Some x) old new = new ≡ old
LookedAt None old new = ((x : Sent) × Continues old.taken x × (new ≡ record old { lent = Some x }))
    ⊎ (new ≡ none_found old)

abbrev pub Looked : In → In → Type 0
Looked old new = LookedAt old.lent old new

pub record MayPut (v : Log) (end : Option FrameHead) : Type 0 where
  pub puts : v.puts ≡ true
  pub end_is : end ≡ last_head None (frames_of v.put)

-- what was got is what was taken, and then the frame that is lent
pub record MayGet (v : Log) (taken : List Sent) (lent : Option Sent) (end : Option FrameHead) : Type 0 where
  pub gets : v.gets ≡ true
  pub got : v.got ≡ taken ++ option_to_list lent
  pub next : (x : Sent) → lent ≡ Some x → Continues taken x
  pub end_is : end ≡ last_head None (frames_of taken)
