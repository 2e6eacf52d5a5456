-- What a clause says of a peer's seat.
use Rattle.std.specs.Prelude.{◌≡◌, ℕ, ◌<◌, List, ◌++◌, length, drop, Some, None}
use Rattle.fab_base.specs.declared.frames.FrameHead.{FrameHead}
use Rattle.fab_table.specs.declared.kinds.Command.{Command}
use Rattle.fab_table.specs.declared.kinds.Slot.{Slot}
use Rattle.fab_table.specs.declared.kinds.Part.{Part}
use Rattle.fab_table.specs.declared.kinds.Out.{Out}
use Rattle.fab_table.specs.declared.kinds.In.{In}
use Rattle.fab_table.specs.declared.kinds.View.{View}
use Rattle.fab_table.specs.declared.lane_table.LaneTable.{LaneTable}
use Rattle.fab_table.specs.declared.lane_table.PeerSeat.{PeerSeat}
use Rattle.fab_table.specs.Views.{part_at, out_at, in_at}
use Rattle.fab_table.specs.Plays.{Sat}

abbrev pub sat : PeerSeat → Sat
sat p = p.seat.me

abbrev pub view_of_seat : PeerSeat → View
view_of_seat p = p.seat.me.0

-- the places in its hand, the last first
abbrev pub carried : PeerSeat → List (ℕ × Slot)
carried p = p.seat.me.1

abbrev pub IsOf : LaneTable → PeerSeat → Type 0
IsOf f p = p.seat.table_id ≡ f.table.shared.table_id

abbrev pub IsSame : PeerSeat → PeerSeat → Type 0
IsSame p q = (q.seat.table_id ≡ p.seat.table_id) × (q.seat.id ≡ p.seat.id)

-- the part of the peer `me` is the i-th of the seat
abbrev pub IsAt : LaneTable → PeerSeat → ℕ → ℕ → Type 0
IsAt f p i me = (i < length p.seat.me.0.parts) × ((part_at p.seat.me.0 i).me ≡ me) × ((part_at p.seat.me.0 i).peers ≡ f.peers) × (me < f.peers)

-- its i-th part, and the lanes that this peer writes to d and reads of s
abbrev pub part_of : PeerSeat → ℕ → Part
part_of p i = part_at p.seat.me.0 i

abbrev pub out_of : PeerSeat → ℕ → ℕ → Out
out_of p i d = out_at (part_at p.seat.me.0 i) d

abbrev pub in_of : PeerSeat → ℕ → ℕ → In
in_of p i s = in_at (part_at p.seat.me.0 i) s

-- the command, with another slot
abbrev pub named : Command → ℕ → Command
named c q = record { number = c.number; slot = Some q; head = c.head; inline = c.inline }

-- the command, written over: with no slot, and these bytes before the rest of its own
abbrev pub written : Command → ℕ → FrameHead → List ℕ → Command
written c n head bytes = record { number = n; slot = None; head = head; inline = bytes ++ drop (length bytes) c.inline }
