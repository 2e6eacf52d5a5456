-- Ports gathered into plain ports.
--     AreAll f ports         the ports of all peers of one table, in order
--     Gathered ports plain   each plain port goes on where its port ended, and what was inside a lane is what came
--     AreOwed ports          no port began a reply that it does not owe
--     Released p q           what a seat knows after each frame that lay open was stepped over
--     IsJoined f s           a seat that speaks for all peers, with nothing in hand
--     Grew s t r e xs        these frames more were taken of one lane
--     IsOpen                 a frame is open, with its places alone in hand
--     IsRoom, AreRooms ..    the room that is made for what is inside the lanes, from what the ports know
--     Awaits, AwaitsEach ..  the same from what the joined seat knows
--     Emptied, Brought ..    all that was inside a lane came
use Rattle.std.specs.Prelude.{◌≡◌, ◌≢◌, ℕ, ◌+◌, ◌-◌, ◌*◌, ◌<◌, ◌≤◌, ◌⊎◌, true, false, List, [], ◌∷◌, ◌++◌, length, Option, Some, None, slice_get, slice_index_or, Vec, vec_capacity, option_to_list}
use Rattle.std.specs.declared.alloc.Global.{Global}
use Rattle.fab_base.specs.declared.limits.TheConstants.{FRAME_BYTES}
use mathlib.Core.List.{IsPrefix}
use Rattle.fab_base.specs.declared.frames.FrameHead.{FrameHead}
use Rattle.fab_base.specs.declared.frames.Frame.{Frame}
use Rattle.fab_link.specs.Frames.{last_head, IsLane}
use Rattle.fab_link.specs.Merged.{posts_to}
use Rattle.fab_link.specs.Meaning.{AreFresh, Owes, advanced, end_of, taken_end}
use Rattle.fab_link.specs.Plain as plain
use Rattle.fab_link.specs.Plain.{Plain, lane_at, fresh_lane}
use Rattle.fab_table.specs.declared.lane_table.LaneTable.{LaneTable}
use Rattle.fab_table.specs.declared.lane_table.PeerSeat.{PeerSeat}
use Rattle.fab_table.specs.declared.kinds.Sent.{Sent}
use Rattle.fab_table.specs.declared.kinds.Part.{Part}
use Rattle.fab_table.specs.Views.{frames_of, out_at, in_at}
use Rattle.fab_table.specs.declared.kinds.Slot.{Slot}
use Rattle.fab_table.specs.Rule.{Fills, IsShort}
use Rattle.fab_table.specs.Plays.{oldest_cell, slot_home}
use Rattle.fab_table.specs.Seats as seats
use Rattle.fab_table.specs.Seats.{IsOf, carried, view_of_seat}
use Rattle.fab_ring.specs.declared.port.RingPort.{RingPort}
use Rattle.fab_ring.specs.declared.rooms.Inside.{Inside}
use Rattle.fab_ring.specs.Ports.{part_of, number_of, peers_of, table_of, out_of, in_of}

-- these are the ports of all peers of the table, in order
pub record AreAll (f : LaneTable) (ports : List RingPort) : Type 0 where
  pub count : length ports ≡ f.peers
  pub numbers : (k : ℕ) (p : RingPort) → slice_get ports k ≡ Some p → number_of p ≡ k
  pub tables : (k : ℕ) (p : RingPort) → slice_get ports k ≡ Some p → table_of p ≡ f

-- the plain port goes on where the port ended: behind the last frames that it posted and took
pub record GoesOn (p : RingPort) (q : Plain) : Type 0 where
  pub number : q.number ≡ number_of p
  pub peers : length q.lanes ≡ peers_of p
  pub fresh : (d : ℕ) → AreFresh (plain.out_of q d) (plain.in_of q d)
  pub out_after : (d : ℕ) → (plain.out_of q d).after ≡ end_of (out_of p d)
  pub in_after : (s : ℕ) → (plain.in_of q s).after ≡ taken_end (in_of p s)

pub record Gathered (ports : List RingPort) (all : List Plain) : Type 0 where
  pub count : length all ≡ length ports
  pub goes_on : (k : ℕ) (p : RingPort) (q : Plain) → slice_get ports k ≡ Some p → slice_get all k ≡ Some q → GoesOn p q
  -- nothing was moved out of a plain port yet
  pub unmoved : (k : ℕ) (q : Plain) → slice_get all k ≡ Some q → (d : ℕ) → (lane_at q d).moved ≡ 0
  -- what s posted to r is what r had taken of it, and then what came
  pub inside : (s r : ℕ) (a b : RingPort) (q : Plain) → slice_get ports s ≡ Some a → slice_get ports r ≡ Some b → slice_get all r ≡ Some q
      → (out_of a r).frames ≡ (in_of b s).taken ++ (lane_at q s).in_list

-- to no peer more replies to an operation were begun than are owed it, the frame that lies lent taken
abbrev pub AreOwed : List RingPort → Type 0
AreOwed ports = (k : ℕ) (p : RingPort) → slice_get ports k ≡ Some p → (d op : ℕ) → Owes (out_of p d) (advanced (in_of p d)) op 0

-- each frame that lay open was stepped over
pub record Released (p q : Part) : Type 0 where
  pub me : q.me ≡ p.me
  pub peers : q.peers ≡ p.peers
  pub room : q.room ≡ p.room
  pub pool : q.pool ≡ p.pool
  pub outs : q.outs ≡ p.outs
  pub all_ins : length q.ins ≡ length p.ins
  pub closed : (s : ℕ) → (in_at q s).opened ≡ None
  pub taken : (s : ℕ) → (in_at q s).taken ≡ (in_at p s).taken ++ option_to_list (in_at p s).opened
  pub moves : IsPrefix p.moves q.moves
  pub posts : (d : ℕ) → posts_to d q.moves ≡ posts_to d p.moves

-- a part of the seat that speaks for all peers
pub record IsPartOf (f : LaneTable) (k : ℕ) (p : Part) : Type 0 where
  pub me : p.me ≡ k
  pub peers : p.peers ≡ f.peers
  pub room : p.room ≡ f.room
  pub pool : p.pool ≡ f.pool
  pub all_outs : length p.outs ≡ f.peers
  pub all_ins : length p.ins ≡ f.peers
  pub closed : (s : ℕ) → (in_at p s).opened ≡ None

pub record IsJoined (f : LaneTable) (s : PeerSeat) : Type 0 where
  pub of : IsOf f s
  pub count : length (view_of_seat s).parts ≡ f.peers
  pub empty : carried s ≡ []
  pub each : (k : ℕ) → k < f.peers → IsPartOf f k (seats.part_of s k)

-- these frames more were taken of the lane from e
pub record Took (p q : Part) (e : ℕ) (xs : List Sent) : Type 0 where
  pub outs : q.outs ≡ p.outs
  pub taken : (in_at q e).taken ≡ (in_at p e).taken ++ xs
  pub others : (s : ℕ) → s ≢ e → (in_at q s).taken ≡ (in_at p s).taken

pub record Grew (s t : PeerSeat) (r e : ℕ) (xs : List Sent) : Type 0 where
  pub mine : Took (seats.part_of s r) (seats.part_of t r) e xs
  pub rest : (k : ℕ) → k ≢ r → seats.part_of t k ≡ seats.part_of s k

-- the frame x of e is open at the r-th part, with its places alone in hand: its cell y, and behind that its slot
pub record IsOpen (f : LaneTable) (t : PeerSeat) (r e : ℕ) (x : Sent) (y : Slot) : Type 0 where
  pub of : IsOf f t
  pub near : r < length (view_of_seat t).parts
  pub below : e < f.peers
  pub peers : (seats.part_of t r).peers ≡ f.peers
  pub room : (seats.part_of t r).room ≡ f.room
  pub all_ins : length (seats.part_of t r).ins ≡ f.peers
  pub opened : (seats.in_of t r e).opened ≡ Some x
  pub short : IsShort x
  pub few : x.frame.head.len ≤ FRAME_BYTES
  pub hand : ((x.slot ≡ None) × ((seats.in_of t r e).lent ≡ false) × (carried t ≡ (oldest_cell (view_of_seat t) r e, y) ∷ []))
      ⊎ ((q : ℕ) × (b : Slot) × (x.slot ≡ Some q) × ((seats.in_of t r e).lent ≡ true) × Fills x b × (q < f.peers * f.pool) × (carried t ≡ (oldest_cell (view_of_seat t) r e, y) ∷ (slot_home (view_of_seat t) r q, b) ∷ []))

-- spare buffers, each of the size of a slot
abbrev pub AreSpare : List (List ℕ) → Type 0
AreSpare spares = (k : ℕ) → k < length spares → length (slice_index_or spares k []) ≡ FRAME_BYTES

-- the frame that lies open at the reader, and room for the others that were posted and that the reader has not taken
pub record IsRoom (reader source : RingPort) (i : Inside) : Type 0 where
  pub frames : i.frames.items ≡ option_to_list (in_of reader source.me).lent
  pub taken : i.taken ≡ length (in_at (part_of reader) source.me).taken + length i.frames.items
  pub spares : length i.spares.items ≡ length (out_at (part_of source) reader.me).posted - i.taken
  pub sizes : AreSpare i.spares.items
  pub room : length i.frames.items + length i.spares.items ≤ vec_capacity i.frames

pub record AreRooms (ports : List RingPort) (reader : RingPort) (rooms : List Inside) : Type 0 where
  pub count : length rooms ≡ length ports
  pub each : (s : ℕ) (p : RingPort) (i : Inside) → slice_get ports s ≡ Some p → slice_get rooms s ≡ Some i → IsRoom reader p i

pub record AreAllRooms (ports : List RingPort) (rooms : List (Vec Inside Global)) : Type 0 where
  pub count : length rooms ≡ length ports
  pub each : (r : ℕ) (p : RingPort) (w : Vec Inside Global) → slice_get ports r ≡ Some p → slice_get rooms r ≡ Some w → AreRooms ports p w.items

-- a plain port that goes on where a port ended, and to which nothing came yet
pub record Succeeds (p : RingPort) (q : Plain) : Type 0 where
  pub goes_on : GoesOn p q
  pub lanes : (s : ℕ) → lane_at q s ≡ fresh_lane (lane_at q s).out.after (lane_at q s).in_after

pub record AreSuccessors (ports : List RingPort) (all : List Plain) : Type 0 where
  pub count : length all ≡ length ports
  pub each : (k : ℕ) (p : RingPort) (q : Plain) → slice_get ports k ≡ Some p → slice_get all k ≡ Some q → Succeeds p q

-- one seat speaks for all these ports, each as it is when its open frames are stepped over
pub record IsWhole (f : LaneTable) (ports : List RingPort) (t : PeerSeat) : Type 0 where
  pub joined : IsJoined f t
  pub parts : (k : ℕ) (p : RingPort) → slice_get ports k ≡ Some p → Released (part_of p) (seats.part_of t k)

-- there is room for just what is inside the lane from e to r
pub record Awaits (t : PeerSeat) (r e : ℕ) (i : Inside) : Type 0 where
  pub taken : i.taken ≡ length (seats.in_of t r e).taken
  pub spares : i.taken + length i.spares.items ≡ length (seats.out_of t e r).posted
  pub sizes : AreSpare i.spares.items
  pub room : length i.frames.items + length i.spares.items ≤ vec_capacity i.frames

-- the frames that the room has already go on behind this head, and those inside the lane behind them
pub record Leads (t : PeerSeat) (r e : ℕ) (before : Option FrameHead) (fs : List Frame) : Type 0 where
  pub cut : IsLane before fs
  pub goes_on : last_head before fs ≡ last_head None (frames_of (seats.in_of t r e).taken)

pub record AwaitsEach (t : PeerSeat) (p : Plain) (rooms : List Inside) : Type 0 where
  pub count : length rooms ≡ length p.lanes
  pub each : (e : ℕ) (i : Inside) → slice_get rooms e ≡ Some i → Awaits t p.number e i
  pub leads : (e : ℕ) (i : Inside) → slice_get rooms e ≡ Some i → Leads t p.number e (lane_at p e).in_after i.frames.items
  pub none : (e : ℕ) → (lane_at p e).in_list ≡ []

pub record AwaitsAll (f : LaneTable) (t : PeerSeat) (ps : List Plain) (rooms : List (Vec Inside Global)) : Type 0 where
  pub count : length rooms ≡ f.peers
  pub ports : length ps ≡ f.peers
  pub numbers : (r : ℕ) (p : Plain) → slice_get ps r ≡ Some p → (p.number ≡ r) × (length p.lanes ≡ f.peers)
  pub each : (r : ℕ) (p : Plain) (w : Vec Inside Global) → slice_get ps r ≡ Some p → slice_get rooms r ≡ Some w → AwaitsEach t p w.items

-- all that was inside the lane from e to r came: the frames of the room, and then those that the seat took
pub record Emptied (s t : PeerSeat) (r e : ℕ) (i : Inside) (came : List Frame) : Type 0 where
  pub xs : List Sent
  pub came_is : came ≡ i.frames.items ++ frames_of xs
  pub taken : (seats.in_of t r e).taken ≡ (seats.in_of s r e).taken ++ xs
  pub all : length (seats.in_of t r e).taken ≡ length (seats.out_of t e r).posted

-- only what came to the port differs, and what came is all that was inside its lanes
pub record Brought (s t : PeerSeat) (p q : Plain) (rooms : List Inside) : Type 0 where
  pub number : q.number ≡ p.number
  pub count : length q.lanes ≡ length p.lanes
  pub same : (e : ℕ) → lane_at q e ≡ record (lane_at p e) { in_list = (lane_at q e).in_list }
  pub each : (e : ℕ) (i : Inside) → slice_get rooms e ≡ Some i → Emptied s t p.number e i (lane_at q e).in_list

pub record Received (s t : PeerSeat) (p q : Plain) (rooms : List Inside) : Type 0 where
  pub port : Brought s t p q rooms
  pub outs : (k : ℕ) → (seats.part_of t k).outs ≡ (seats.part_of s k).outs
  pub rest : (k : ℕ) → k ≢ p.number → seats.part_of t k ≡ seats.part_of s k

pub record ReceivedAll (s t : PeerSeat) (ps qs : List Plain) (rooms : List (Vec Inside Global)) : Type 0 where
  pub count : length qs ≡ length ps
  pub outs : (k : ℕ) → (seats.part_of t k).outs ≡ (seats.part_of s k).outs
  pub each : (r : ℕ) (p q : Plain) (w : Vec Inside Global) → slice_get ps r ≡ Some p → slice_get qs r ≡ Some q → slice_get rooms r ≡ Some w → Brought s t p q w.items
