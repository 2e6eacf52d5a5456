-- Ports gathered into plain ports.
--     AreAll ports           the ports of all peers, in order
--     Gathered ports plain   each plain port goes on where its port ended, and what was inside a lane is what came
--     Succeeds ..            a plain port that goes on, to which nothing came yet
--     IsRoom ..              the room that is made for what is inside the lanes
--     Drained ..             all that was inside a lane came
use Rattle.std.specs.Prelude.{◌≡◌, ℕ, ◌+◌, ◌^◌, ◌<◌, ◌≤◌, List, [], ◌++◌, length, Option, Some, None, slice_get, Vec, vec_capacity}
use Rattle.std.specs.declared.alloc.Global.{Global}
use Rattle.fab_base.specs.declared.frames.FrameHead.{FrameHead}
use Rattle.fab_base.specs.declared.frames.Frame.{Frame}
use Rattle.fab_link.specs.Frames.{last_head, IsLane}
use Rattle.fab_link.specs.Meaning.{AreFresh, end_of, taken_end}
use Rattle.fab_link.specs.Plain as plain
use Rattle.fab_link.specs.Plain.{Plain, lane_at, fresh_lane}
use Rattle.fab_queue.specs.declared.lane.Sent.{Sent}
use Rattle.fab_queue.specs.declared.lane.Log.{Log}
use Rattle.fab_queue.specs.Lanes.{frames_of}
use Rattle.fab_queue.specs.Ends.{Out, In}
use Rattle.fab_queue.specs.Ports.{Queued, out_of, in_of, number_of, peers_of, room_of, IsSound}
use Rattle.fab_queue.specs.Laid.{row, column, out_in, in_in}
use Rattle.fab_queue.specs.Made.{AreJoined}

-- these are the ports of all peers, in order
pub record AreAll (ports : List Queued) : Type 0 where
  pub some : 0 < length ports
  pub numbers : (k : ℕ) (p : Queued) → slice_get ports k ≡ Some p → number_of p ≡ k
  pub sizes : (k : ℕ) (p : Queued) → slice_get ports k ≡ Some p → peers_of p ≡ length ports
  pub joined : AreJoined ports

-- the plain port goes on where the port ended: behind the last frames that it posted and took
pub record GoesOn (p : Queued) (q : Plain) : Type 0 where
  pub number : q.number ≡ number_of p
  pub peers : length q.lanes ≡ peers_of p
  pub fresh : (d : ℕ) → AreFresh (plain.out_of q d) (plain.in_of q d)
  pub out_after : (d : ℕ) → (plain.out_of q d).after ≡ end_of (out_of p d)
  pub in_after : (s : ℕ) → (plain.in_of q s).after ≡ taken_end (in_of p s)

pub record Gathered (ports : List Queued) (all : List Plain) : Type 0 where
  pub count : length all ≡ length ports
  pub goes_on : (k : ℕ) (p : Queued) (q : Plain) → slice_get ports k ≡ Some p → slice_get all k ≡ Some q → GoesOn p q
  -- nothing was moved out of a plain port yet
  pub unmoved : (k : ℕ) (q : Plain) → slice_get all k ≡ Some q → (d : ℕ) → (lane_at q d).moved ≡ 0
  -- what s posted to r is what r had taken of it, and then what came
  pub inside : (s r : ℕ) (a b : Queued) (q : Plain) → slice_get ports s ≡ Some a → slice_get ports r ≡ Some b → slice_get all r ≡ Some q
      → (out_of a r).frames ≡ (in_of b s).taken ++ (lane_at q s).in_list

abbrev pub posted_end : Out → Option FrameHead
posted_end o = last_head None (frames_of o.posted)

abbrev pub taken_end_of : In → Option FrameHead
taken_end_of i = last_head None (frames_of i.taken)

-- a plain port that goes on where a port ended, and to which nothing came yet
pub record Succeeds (p : Queued) (q : Plain) : Type 0 where
  pub goes_on : GoesOn p q
  pub lanes : (s : ℕ) → lane_at q s ≡ fresh_lane (lane_at q s).out.after (lane_at q s).in_after

pub record AreSuccessors (ports : List Queued) (all : List Plain) : Type 0 where
  pub count : length all ≡ length ports
  pub each : (k : ℕ) (p : Queued) (q : Plain) → slice_get ports k ≡ Some p → slice_get all k ≡ Some q → Succeeds p q × IsSound p

-- room for all that may be inside the lane to d, and for a frame that is lent
abbrev pub IsRoom : Queued → ℕ → Vec Frame Global → Type 0
IsRoom p d w = (w.items ≡ []) × (room_of p d + 1 ≤ vec_capacity w)

pub record AreRooms (ports : List Queued) (d : ℕ) (rooms : List (Vec Frame Global)) : Type 0 where
  pub count : length rooms ≡ length ports
  pub each : (s : ℕ) (p : Queued) (w : Vec Frame Global) → slice_get ports s ≡ Some p → slice_get rooms s ≡ Some w → IsRoom p d w

pub record AreAllRooms (ports : List Queued) (rooms : List (Vec (Vec Frame Global) Global)) : Type 0 where
  pub count : length rooms ≡ length ports
  pub each : (r : ℕ) (p : Queued) (w : Vec (Vec Frame Global) Global) → slice_get ports r ≡ Some p → slice_get rooms r ≡ Some w → AreRooms ports (number_of p) w.items

-- the ends of the ports from the n-th on stand by themselves
pub record AreApart (ports : List Queued) (outs : List (Vec Out Global)) (ins : List (Vec In Global)) (n : ℕ) : Type 0 where
  pub outs_count : length outs ≡ length ports
  pub ins_count : length ins ≡ length ports
  pub each : (k : ℕ) (p : Queued) → n ≤ k → slice_get ports k ≡ Some p → (row outs k ≡ p.outs) × (column ins k ≡ p.ins)

-- what a pass that may put and get finds inside comes behind the frames given
pub record IsInside (v : Log) (before after : List Frame) : Type 0 where
  pub xs : List Sent
  pub put : v.put ≡ v.got ++ xs
  pub after_is : after ≡ before ++ frames_of xs
  pub cut : IsLane None (frames_of v.put)

-- all that was posted and not taken came
pub record Drained (o : Out) (i : In) (came : List Frame) : Type 0 where
  pub xs : List Sent
  pub posted : o.posted ≡ i.taken ++ xs
  pub came_is : came ≡ frames_of xs
  pub cut : IsLane (taken_end_of i) came

-- what is inside the lanes to one port may be taken
pub record Receives (outs : List (Vec Out Global)) (ins : List In) (rooms : List (Vec Frame Global)) (port : Plain) : Type 0 where
  pub sources : length outs ≡ length ins
  pub rooms_count : length rooms ≡ length ins
  pub lanes_count : length port.lanes ≡ length ins
  pub few : length ins < 2 ^ 32
  pub below : (s : ℕ) → s < length ins → port.number < length (row outs s)
  pub joined : (s : ℕ) → s < length ins → (out_in (row outs s) port.number).lane ≡ (in_in ins s).lane
  pub room : (s : ℕ) (w : Vec Frame Global) → slice_get rooms s ≡ Some w → (w.items ≡ []) × ((out_in (row outs s) port.number).room + 1 ≤ vec_capacity w)
  pub none : (s : ℕ) → s < length ins → (lane_at port s).in_list ≡ []
  pub after : (s : ℕ) → s < length ins → (lane_at port s).in_after ≡ taken_end_of (in_in ins s)

-- only what came to the port differs, and what came is all that was inside its lanes
pub record Received (outs : List (Vec Out Global)) (ins : List In) (old new : Plain) : Type 0 where
  pub number : new.number ≡ old.number
  pub count : length new.lanes ≡ length old.lanes
  pub same : (s : ℕ) → lane_at new s ≡ record (lane_at old s) { in_list = (lane_at new s).in_list }
  pub each : (s : ℕ) → s < length ins → Drained (out_in (row outs s) old.number) (in_in ins s) (lane_at new s).in_list

pub record ReceivesAll (outs : List (Vec Out Global)) (ins : List (Vec In Global)) (rooms : List (Vec (Vec Frame Global) Global)) (ports : List Plain) : Type 0 where
  pub rooms_count : length rooms ≡ length ins
  pub ports_count : length ports ≡ length ins
  pub each : (r : ℕ) (w : Vec (Vec Frame Global) Global) (q : Plain) → slice_get rooms r ≡ Some w → slice_get ports r ≡ Some q → Receives outs (column ins r) w.items q

pub record ReceivedAll (outs : List (Vec Out Global)) (ins : List (Vec In Global)) (old new : List Plain) : Type 0 where
  pub count : length new ≡ length old
  pub each : (r : ℕ) (p q : Plain) → slice_get old r ≡ Some p → slice_get new r ≡ Some q → Received outs (column ins r) p q
