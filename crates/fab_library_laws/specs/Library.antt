-- A program that opens endpoints over lanes, uses each in a thread of its own, and gathers the ports once the threads are joined.
--     Thread                 an endpoint as its thread leaves it, and the record that the thread kept of its calls
--     past_of t              the same as `fab_doings` has it
--     untouched e            an endpoint that was opened, before any call
--     AreUsed info ..        what the contracts of `endpoints`, of all calls, and of `gather` say together
--     IsLibraryRun           the threads did a run of the program's machine, and each law holds of it
--     LibraryObeys           the law
use Rattle.std.specs.Prelude.{◌≡◌, ℕ, Bool, true, List, [], length, map, Some, slice_get}
use Rattle.fab_base.specs.declared.caps.Info.{Info}
use Rattle.fab_link.specs.Merged.{merges}
use Rattle.fab_link.specs.Plain.{Plain}
use Rattle.fab_model.specs.State.{State}
use Rattle.fab_laws.specs.Programs.{Opening, peer}
use Rattle.fab_table.specs.declared.lane_table.LaneTable.{LaneTable}
use Rattle.fab_face.specs.Held.{IsOpen}
use Rattle.fab_ep.specs.Value.{Whole}
use Rattle.fab_ring.specs.declared.port.RingPort.{RingPort}
use Rattle.fab_ring.specs.Gather.{AreAll, Gathered}
use Rattle.fab_ring.specs.Ports.{moves_of}
use Rattle.fab_domain.specs.Domain.{AreOpened, port_of}
use Rattle.fab_domain.specs.Seen.{ring_seen}
use Rattle.fab_doings.specs.Doings.{Doing, Living}
use Rattle.fab_doings.specs.Law.{IsRun, Kept, Past, past_in}

pub record Thread : Type 0 where
  pub endpoint : Whole RingPort
  -- what all its calls did, and the states after that
  pub doings : List Doing
  pub states : List State

abbrev pub past_of : Thread → Past
past_of t = past_in (ring_seen t.endpoint) t.doings t.states

abbrev pub untouched : Whole RingPort → Thread
untouched e = record { endpoint = e; doings = []; states = [] }

abbrev pub ports_of : List Thread → List RingPort
ports_of threads = map (λ (t : Thread). port_of t.endpoint) threads

pub record AreUsed (info : Info) (selective : Bool) (all : List (Whole RingPort)) (threads : List Thread) : Type 0 where
  -- `opened` of `endpoints` (fab_domain)
  pub opened : AreOpened info selective all
  -- of each call the record has what its contract says that it did (`Adds` of fab_doings)
  pub count : length threads ≡ length all
  pub kept : (p : ℕ) (e : Whole RingPort) (t : Thread) → slice_get all p ≡ Some e → slice_get threads p ≡ Some t → Kept (past_of (untouched e)) (past_of t)
  -- `known` of each endpoint (fab_face)
  pub known : (p : ℕ) (t : Thread) → slice_get threads p ≡ Some t → IsOpen (ring_seen t.endpoint)
  -- what `gather` asks for, and its `gathered` and `merged` (fab_ring)
  pub table : LaneTable
  pub ports : AreAll table (ports_of threads)
  pub plain : List Plain
  pub gathered : Gathered (ports_of threads) plain
  pub merged : merges (map moves_of (ports_of threads)) ≡ true

abbrev pub opening_of : Whole RingPort → Living
opening_of e = record { held = e.held; past = [] }

pub record IsLibraryRun (all : List (Whole RingPort)) (threads : List Thread) : Type 0 where
  pub from : Opening
  pub starts : map (λ (e : Whole RingPort). peer e.held.state) all ≡ from.peers
  pub run : IsRun from (map opening_of all) (map past_of threads)

abbrev pub LibraryObeys : Type 0
LibraryObeys = (info : Info) (selective : Bool) (all : List (Whole RingPort)) (threads : List Thread) → AreUsed info selective all threads → IsLibraryRun all threads
