-- Ports as they are made.
use Rattle.std.specs.Prelude.{◌≡◌, ℕ, List, [], length, Some, slice_get}
use Rattle.std.specs.Arc.{arc_value}
use Rattle.fab_link.specs.Meaning.{AreFresh}
use Rattle.fab_table.specs.declared.lane_table.LaneTable.{LaneTable}
use Rattle.fab_table.specs.Views.{new_part}
use Rattle.fab_ring.specs.declared.port.RingPort.{RingPort}
use Rattle.fab_ring.specs.declared.port.Rings.{Rings}
use Rattle.fab_ring.specs.Ports.{part_of, number_of, peers_of, room_of, pool_of, table_of, moves_of, out_of, in_of}

abbrev pub rings_peers : Rings → ℕ
rings_peers r = (arc_value r.fabric).peers

abbrev pub rings_room : Rings → ℕ
rings_room r = (arc_value r.fabric).room

abbrev pub rings_pool : Rings → ℕ
rings_pool r = (arc_value r.fabric).pool

abbrev pub rings_table : Rings → LaneTable
rings_table r = arc_value r.fabric

-- the port of a peer that has neither posted nor taken
abbrev pub IsMade : LaneTable → ℕ → RingPort → Type 0
IsMade f me p = (p.me ≡ me) × (arc_value p.fabric ≡ f) × (part_of p ≡ new_part f.peers f.room f.pool me)

-- these are new ports of all peers of one table, in order
pub record AreMade (peers room pool : ℕ) (table : LaneTable) (ports : List RingPort) : Type 0 where
  pub count : length ports ≡ peers
  pub numbers : (k : ℕ) (p : RingPort) → slice_get ports k ≡ Some p → number_of p ≡ k
  pub sizes : (k : ℕ) (p : RingPort) → slice_get ports k ≡ Some p → (peers_of p ≡ peers) × (room_of p ≡ room) × (pool_of p ≡ pool)
  pub tables : (k : ℕ) (p : RingPort) → slice_get ports k ≡ Some p → table_of p ≡ table
  pub fresh : (k : ℕ) (p : RingPort) → slice_get ports k ≡ Some p → (moves_of p ≡ []) × ((d : ℕ) → AreFresh (out_of p d) (in_of p d))
