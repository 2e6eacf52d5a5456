-- The endpoints of all peers of one domain (fi_domain(3)).
--     AreLanes info ports          new ports of all peers over one table, with the sizes granted
--     AreOpened info sel all       an endpoint over each, as it is opened
use Rattle.std.specs.Prelude.{◌≡◌, ℕ, Bool, List, map, Some}
use Rattle.std.specs.List.{All}
use Rattle.fab_base.specs.declared.caps.Info.{Info}
use Rattle.fab_link.specs.Meaning.{AreFresh}
use Rattle.fab_model.specs.Calls.{upto}
use Rattle.fab_table.specs.declared.lane_table.LaneTable.{LaneTable}
use Rattle.fab_ep.specs.Value.{Whole, opened}
use Rattle.fab_ring.specs.declared.port.RingPort.{RingPort}
use Rattle.fab_ring.specs.Ports.{peers_of, out_of, in_of}
use Rattle.fab_ring.specs.Made.{AreMade}

abbrev pub port_of : Whole RingPort → RingPort
port_of e = e.port

-- ---- the ports

-- nothing was posted to this port or taken from it
abbrev pub IsReady : ℕ → RingPort → Type 0
IsReady peers p = (peers_of p ≡ peers) × ((d : ℕ) → AreFresh (out_of p d) (in_of p d))

abbrev pub AreReady : ℕ → List RingPort → Type 0
AreReady peers ports = All (IsReady peers) ports

-- new ports of all peers, in order of their numbers, over one table
abbrev pub AreLanes : Info → List RingPort → Type 0
AreLanes info ports = (table : LaneTable) × AreMade info.peers info.lane info.pool table ports

-- ---- the endpoints

-- as it is opened, with each peer at the index of its number
abbrev pub IsOpened : Info → Bool → Whole RingPort → Type 0
IsOpened info selective e = e ≡ opened e.port (record { peers = info.peers; indices = map Some (upto info.peers) }) info selective

pub record AreOpened (info : Info) (selective : Bool) (all : List (Whole RingPort)) : Type 0 where
  pub lanes : AreLanes info (map port_of all)
  pub opened : All (IsOpened info selective) all
