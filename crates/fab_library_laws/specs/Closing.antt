-- The end of a program: its endpoints are closed, and their ports gathered.
--     IsKept e t           the record of a thread is that of all calls of its endpoint, which is still that of the same peer of the same table
--     AreLeft info ..      endpoints of a domain as their threads left them, each with its record
--     HandsBack ..         what is handed back for want of memory
use Rattle.std.specs.Prelude.{◌≡◌, ◌<◌, ◌⊎◌, ℕ, Bool, List, [], length, map, Some, slice_get}
use Rattle.fab_base.specs.declared.caps.Info.{Info}
use Rattle.fab_ep.specs.Value.{Whole}
use Rattle.fab_ring.specs.declared.port.RingPort.{RingPort}
use Rattle.fab_domain.specs.Domain.{AreOpened, port_of}
use Rattle.fab_domain.specs.Seen.{ring_seen}
use Rattle.fab_doings.specs.Law.{Kept}
use Rattle.fab_library_laws.specs.Library.{Thread, past_of, untouched}

pub record IsKept (e : Whole RingPort) (t : Thread) : Type 0 where
  pub kept : Kept (past_of (untouched e)) (past_of t)
  pub home : (ring_seen t.endpoint).lanes.home ≡ (ring_seen e).lanes.home
  pub number : (ring_seen t.endpoint).lanes.number ≡ (ring_seen e).lanes.number

abbrev pub endpoints_of : List Thread → List (Whole RingPort)
endpoints_of threads = map (λ (t : Thread). t.endpoint) threads

pub record AreLeft (info : Info) (selective : Bool) (all : List (Whole RingPort)) (threads : List Thread) : Type 0 where
  -- what was granted has a peer
  pub some : 0 < info.peers
  -- `opened` of `endpoints` (fab_domain) and of `open` (fabric)
  pub opened : AreOpened info selective all
  pub count : length threads ≡ length all
  -- each thread's function ensures this, by `IsRecorded`
  pub kept : (p : ℕ) (e : Whole RingPort) (t : Thread) → slice_get all p ≡ Some e → slice_get threads p ≡ Some t → IsKept e t

-- the endpoints, as they were, or the ports of all of them
abbrev pub HandsBack : List (Whole RingPort) → List (Whole RingPort) → List RingPort → Type 0
HandsBack left endpoints ports = ((endpoints ≡ left) × (ports ≡ [])) ⊎ ((endpoints ≡ []) × (ports ≡ map port_of left))
