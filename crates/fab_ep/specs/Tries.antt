-- What a step of progress does: one frame posted or taken, or none, and why.
use Rattle.std.specs.Prelude.{◌≡◌, ◌≢◌, ℕ, ◌+◌, ◌<◌, ◌≤◌, ◌⊎◌, Bool, true, false, ◌||◌, List, [], ◌∷◌, ◌++◌, length, Some, None, Result, Ok, Err, count_by, slice_index, drop, ◌-◌}
use Rattle.std.specs.List.{list_any, sum_by}
use Rattle.fab_model.specs.State.{accepted_for, held_for}
use Rattle.fab_model.specs.Sending.{items_of}
use Rattle.fab_base.specs.declared.faults.NoMemory.{NoMemory}
use Rattle.fab_base.specs.declared.frames.Frame.{Frame}
use Rattle.fab_base.specs.declared.items.Item.{Item}
use Rattle.fab_face.specs.declared.machine.Next.{Next}
use Rattle.fab_link.specs.Meaning.{end_of, taken_end}
use Rattle.fab_model.specs.Receiving.{draw_due}
use Rattle.fab_face.specs.Held.{Held, Seen, IsPledged, IsRepaid, IsPlaced, IsGathered, next_frame, next_item, begun_of}
use Rattle.fab_face.specs.Acts.{Act, Posted, Took, Ported, Went, is_move, is_take, is_post}
use Rattle.fab_face.specs.Answers.{AllAre, IsShort, SawEmpty, SawFull, LentLacks, LentNeeds, MayLack, Begins, NextLacks, DrawLacks, IsHeld, IsTried}
use Rattle.fab_ep.specs.declared.endpoint.Tried.{Tried}
use Rattle.fab_ep.specs.declared.endpoint.Tried.TheVariants.{Moved, Nothing, Held as HeldBack, Short}
use Rattle.fab_ep.specs.declared.endpoint.Turn.{Turn}
use Rattle.fab_face.specs.declared.lanes.Lane.{Lane}
use Rattle.fab_face.specs.declared.lanes.Lane.TheVariants.{To, From}
use Rattle.fab_face.specs.Circle.{IsOf, ahead, round}
use Rattle.fab_ep.specs.Circle.{Follows}
use Rattle.fab_ep.specs.Fairness.{Lap}

-- the item that the machine lends
abbrev pub next_of : Next → Item
next_of n = record { head = n.head.now; bytes = n.bytes.now }

-- between calls: the log, the ends of the port's lists, and the replies that are owed
pub record IsTied {Home : Type 0} (e : Seen Home) : Type 0 where
  pub log : 4 ≤ e.log_size
  pub within : length e.log ≤ e.log_size
  pub peers : length e.held.places ≡ e.lanes.peers
  pub posted : (d : ℕ) → d < e.lanes.peers → IsPlaced (end_of (e.lanes.outs d)) (slice_index e.held.places d) (next_item e.held.state d)
  pub taken : (s : ℕ) → s < e.lanes.peers → IsGathered (taken_end (e.lanes.ins s)) (begun_of e.held s)
  pub pledged : IsPledged e.held
  pub repaid : IsRepaid e.lanes e.held

-- nothing moved
pub record Calm {Home : Type 0} (old new : Seen Home) : Type 0 where
  pub held : new.held ≡ old.held
  pub log : new.log ≡ old.log
  pub size : new.log_size ≡ old.log_size
  pub ported : Ported old.lanes new.lanes []

-- nothing moved, and the port was asked to post to this peer
pub record CalmOut {Home : Type 0} (old new : Seen Home) (dest : ℕ) : Type 0 where
  pub calm : Calm old new
  pub outs : (d : ℕ) → d ≢ dest → new.lanes.outs d ≡ old.lanes.outs d
  pub ins : new.lanes.ins ≡ old.lanes.ins

-- nothing moved, and the port was asked for a frame of this peer
pub record CalmIn {Home : Type 0} (old new : Seen Home) (source : ℕ) : Type 0 where
  pub calm : Calm old new
  pub ins : (s : ℕ) → s ≢ source → new.lanes.ins s ≡ old.lanes.ins s
  pub outs : new.lanes.outs ≡ old.lanes.outs

-- the next frame for a peer was asked for: it was posted, or there is none or the port refused it, or its entry has no room
abbrev pub PostsOut : {Home : Type 0} → Seen Home → Seen Home → ℕ → Result Tried NoMemory → Type 0
PostsOut old new d (Ok Moved) = (f : Frame) × Went None old new (Posted d f ∷ [])
PostsOut old new d (Ok Nothing) = CalmOut old new d × (next_frame new.held d ≢ None → SawFull old.lanes new.lanes d)
PostsOut old new d (Ok HeldBack) = CalmOut old new d × NextLacks new d
PostsOut old new d (Ok Short) = ⊥
PostsOut old new d (Err _) = Calm old new

abbrev pub TriesOut : {Home : Type 0} → Seen Home → Seen Home → ℕ → Result Tried NoMemory → Type 0
TriesOut old new d (Ok Moved) = (f : Frame) × Went None old new (Posted d f ∷ [])
TriesOut old new d (Ok Nothing) = CalmOut old new d × (next_frame new.held d ≢ None → SawFull old.lanes new.lanes d)
TriesOut old new d (Ok HeldBack) = CalmOut old new d × NextLacks new d
TriesOut old new d (Ok Short) = Calm old new × IsShort old
TriesOut old new d (Err _) = Calm old new

abbrev pub TriesIn : {Home : Type 0} → Seen Home → Seen Home → ℕ → Result Tried NoMemory → Type 0
TriesIn old new s (Ok Moved) = (f : Frame) × Went None old new (Took s f ∷ [])
TriesIn old new s (Ok Nothing) = CalmIn old new s × SawEmpty old.lanes new.lanes s
TriesIn old new s (Ok HeldBack) = CalmIn old new s × LentLacks new s
TriesIn old new s (Ok Short) = Calm old new × IsShort old
TriesIn old new s (Err _) = Calm old new × LentNeeds new s

abbrev pub has_moved : Tried → Bool
has_moved Moved = true
has_moved _ = false

abbrev pub moved_one : Tried → ℕ
moved_one Moved = 1
moved_one _ = 0

abbrev pub is_held : Tried → Bool
is_held HeldBack = true
is_held _ = false

abbrev pub is_short : Tried → Bool
is_short Short = true
is_short _ = false

-- what came of the turn of a lane
abbrev pub Tries : {Home : Type 0} → Seen Home → Seen Home → Lane → Result Tried NoMemory → Type 0
Tries old new (To d) r = TriesOut old new d r
Tries old new (From s) r = TriesIn old new s r

-- the lane behind it is next; or the same again, where the log is short
abbrev pub PassesOn : ℕ → Lane → Lane → Result Tried NoMemory → Type 0
PassesOn peers from next (Ok Short) = next ≡ from
PassesOn peers from next r = Follows peers from next

-- a frame counts where it moved
abbrev pub taken_on : Lane → Tried → ℕ
taken_on (To d) t = 0
taken_on (From s) t = moved_one t

abbrev pub posted_on : Lane → Tried → ℕ
posted_on (To d) t = moved_one t
posted_on (From s) t = 0

-- ---- a turn

-- the lane to this peer has nothing to post, or was seen full, or waits for room
abbrev pub OutAt : {Home : Type 0} → Bool → Seen Home → Seen Home → ℕ → Type 0
OutAt held a e d = next_frame e.held d ≢ None → SawFull a.lanes e.lanes d ⊎ ((held ≡ true) × NextLacks e d)

-- the lane from this peer was seen empty, or waits for room
abbrev pub InAt : {Home : Type 0} → Bool → Seen Home → Seen Home → ℕ → Type 0
InAt held a e s = SawEmpty a.lanes e.lanes s ⊎ ((held ≡ true) × LentLacks e s)

abbrev pub LaneAt : {Home : Type 0} → Bool → Seen Home → Seen Home → Lane → Type 0
LaneAt held a e (To d) = OutAt held a e d
LaneAt held a e (From s) = InAt held a e s

-- no frame moved, and the first `n` lanes from `from` on were looked at
pub record Looked {Home : Type 0} (held : Bool) (a e : Seen Home) (from : Lane) (n : ℕ) : Type 0 where
  pub lanes : (l : Lane) → IsOf a.lanes.peers l → ahead a.lanes.peers from l < n → LaneAt held a e l
  pub some : held ≡ true → ((s : ℕ) × LentLacks e s) ⊎ ((d : ℕ) × NextLacks e d)
  pub same : e.held ≡ a.held

-- so many frames moved, and so many lanes had their turn
pub record Turning {Home : Type 0} (fixed : Bool) (a e : Seen Home) (taken posted : ℕ) (held : Bool) (from next : Lane) (n : ℕ) : Type 0 where
  pub acts : List Act
  pub moves : AllAre is_move acts
  pub went : Went None a e acts
  pub takes : count_by is_take acts ≡ taken
  pub posts : count_by is_post acts ≡ posted
  pub lap : Lap fixed false a.lanes.peers a e from next n acts
  pub looked : taken + posted ≡ 0 → Looked held a e from n

-- a round of frames: all lanes had their turn, unless the log is short or the budget is spent
pub record WentRound {Home : Type 0} (fixed : Bool) (left : ℕ) (a e : Seen Home) (from next : Lane) (t : Turn) : Type 0 where
  pub acts : List Act
  pub moves : AllAre is_move acts
  pub went : Went None a e acts
  pub takes : count_by is_take acts ≡ t.taken
  pub posts : count_by is_post acts ≡ t.posted
  pub most : t.taken + t.posted ≤ left
  pub short : t.short ≡ true → IsShort e
  pub lanes : ℕ
  pub lap : Lap fixed false a.lanes.peers a e from next lanes acts
  pub whole : t.short ≡ false → (lanes ≡ round a.lanes.peers) ⊎ (t.taken + t.posted ≡ left)
  pub quiet : t.short ≡ false → t.taken + t.posted ≡ 0 → Looked t.held a e from (round a.lanes.peers)

-- fewer frames, and then memory was lacking
pub record CutShort {Home : Type 0} (fixed : Bool) (left : ℕ) (a e : Seen Home) (from next : Lane) : Type 0 where
  pub acts : List Act
  pub moves : AllAre is_move acts
  pub went : Went None a e acts
  pub few : count_by is_take acts + count_by is_post acts < left
  pub lacks : MayLack fixed e
  pub lanes : ℕ
  pub lap : Lap fixed true a.lanes.peers a e from next lanes acts

abbrev pub Rounds : {Home : Type 0} → Bool → ℕ → Seen Home → Seen Home → Lane → Lane → Result Turn NoMemory → Type 0
Rounds fixed left a e from next (Ok t) = WentRound fixed left a e from next t
Rounds fixed left a e from next (Err _) = CutShort fixed left a e from next

-- no frame moved, and all lanes were looked at: what was seen, and what waits for room
pub record Quiet {Home : Type 0} (a e : Seen Home) (held : Bool) : Type 0 where
  pub draws : draw_due e.held.state.rx ≡ true → (held ≡ true) × DrawLacks e.held
  pub outs : (d : ℕ) → d < e.lanes.peers → OutAt held a e d
  pub ins : (s : ℕ) → s < e.lanes.peers → InAt held a e s
  pub some : held ≡ true → DrawLacks e.held ⊎ (((s : ℕ) × LentLacks e s) ⊎ ((d : ℕ) × NextLacks e d))

-- a turn
pub record TurnedOn {Home : Type 0} (fixed : Bool) (left : ℕ) (a e : Seen Home) (from next : Lane) (t : Turn) : Type 0 where
  pub acts : List Act
  pub moves : AllAre is_move acts
  pub went : Went None a e acts
  pub takes : count_by is_take acts ≡ t.taken
  pub posts : count_by is_post acts ≡ t.posted
  pub begins : Begins a e acts
  pub most : t.taken + t.posted ≤ left
  pub short : t.short ≡ true → IsShort e
  pub lanes : ℕ
  pub lap : Lap fixed false a.lanes.peers a e from next lanes acts
  pub whole : t.short ≡ false → (lanes ≡ round a.lanes.peers) ⊎ (t.taken + t.posted ≡ left)
  pub quiet : t.short ≡ false → t.taken + t.posted ≡ 0 → Quiet a e t.held

abbrev pub Turns : {Home : Type 0} → Bool → ℕ → Seen Home → Seen Home → Lane → Lane → Result Turn NoMemory → Type 0
Turns fixed left a e from next (Ok t) = TurnedOn fixed left a e from next t
Turns fixed left a e from next (Err _) = (cut : CutShort fixed left a e from next) × Begins a e cut.acts

-- ---- a push

-- a frame is posted in a push: two places of the log stay free
abbrev pub PushesOut : {Home : Type 0} → Seen Home → Seen Home → ℕ → Result Tried NoMemory → Type 0
PushesOut old new d (Ok Moved) = (f : Frame) × Went None old new (Posted d f ∷ [])
PushesOut old new d (Ok Nothing) = CalmOut old new d × (next_frame new.held d ≢ None → SawFull old.lanes new.lanes d)
PushesOut old new d (Ok HeldBack) = CalmOut old new d × ((f : Frame) × (next_frame new.held d ≡ Some f) × IsHeld new d f)
PushesOut old new d (Ok Short) = ⊥
PushesOut old new d (Err _) = Calm old new

-- the same; `moved` says whether one was posted, and it is remembered
abbrev pub PushesOn : {Home : Type 0} → Seen Home → Seen Home → ℕ → Result Bool NoMemory → Type 0
PushesOn old new d (Ok true) = ((f : Frame) × Went None old new (Posted d f ∷ [])) × (new.pushed ≡ true)
PushesOn old new d (Ok false) = CalmOut old new d × IsTried old new d × (new.pushed ≡ old.pushed)
PushesOn old new d (Err _) = Calm old new × (new.pushed ≡ old.pushed)

-- what waits for a peer, with what a fence holds back for it: a number that falls with each frame posted to it
abbrev pub left_of : List Item → ℕ → ℕ
left_of items place = sum_by (λ item. item.head.total + 1) items - place

abbrev pub left_for : Held → ℕ → ℕ
left_for h d = left_of (drop (slice_index h.state.tx.sent d) (accepted_for h.state.tx d ++ items_of (held_for h.state.tx d))) (slice_index h.places d)

-- all frames of this peer that may go are posted
pub record PushedTo {Home : Type 0} (old new : Seen Home) (d : ℕ) (whole : Bool) : Type 0 where
  pub acts : List Act
  pub push : AllAre is_post acts
  pub went : Went None old new acts
  pub pushed : new.pushed ≡ (old.pushed || list_any is_post acts)
  pub tried : whole ≡ true → IsTried old new d

abbrev pub PushesTo : {Home : Type 0} → Seen Home → Seen Home → ℕ → Result (Unit {0}) NoMemory → Type 0
PushesTo old new d (Ok _) = PushedTo old new d true
PushesTo old new d (Err _) = PushedTo old new d false

-- what waits for other peers still waits
abbrev pub HeldStays : {Home : Type 0} → Seen Home → Seen Home → ℕ → Type 0
HeldStays a b d = (k : ℕ) → k ≢ d → (next_frame b.held k ≡ next_frame a.held k) × ((f : Frame) → IsHeld a k f → IsHeld b k f)

pub record Pushed {Home : Type 0} (old new : Seen Home) (whole : Bool) : Type 0 where
  pub acts : List Act
  pub push : AllAre is_post acts
  pub went : Went None old new acts
  pub pushed : new.pushed ≡ (old.pushed || list_any is_post acts)
  pub tried : whole ≡ true → (d : ℕ) → d < new.lanes.peers → IsTried old new d

abbrev pub Pushes : {Home : Type 0} → Seen Home → Seen Home → Result (Unit {0}) NoMemory → Type 0
Pushes old new (Ok _) = Pushed old new true
Pushes old new (Err _) = Pushed old new false
