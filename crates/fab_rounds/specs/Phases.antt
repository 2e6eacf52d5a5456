-- What goes over from the rounds in threads to the turns in one thread.
--     Paired R xs ys           R holds of the members of two lists that stand at one place
--     seen_ring e              an endpoint over a port of the table as its face is seen
--     past_at p                what a peer over such a port did
--     IsNew n port             a port of so many peers, at which nothing was posted or taken
--     IsSized conf             sizes that a table and peers are made for
--     at_start conf lines      a peer that is to do these lines
--     AreReady conf lists xs ps  these pasts at these ports: peers of one table, each at the start of its list of lines
--     AreSized conf ports      these ports have the sizes granted
--     living_with, past_with   a peer that was parted from its port, with what its machine holds
--     Seated living steps p    the peer p, over a plain port, goes on from there
--     Follows x q p            it goes on from this past, over this plain port
--     Tells x port             the past is of a peer at this port of the table
use Rattle.std.specs.Prelude.{◌≡◌, ◌<◌, ◌≤◌, ℕ, List, [], length, map, Some, None, slice_get, slice_index_or}
use Rattle.fab_base.specs.declared.peers.Step.{Step}
use Rattle.fab_base.specs.declared.script.Conf.{Conf}
use Rattle.fab_base.specs.declared.script.Line.{Line}
use Rattle.fab_model.specs.Calls.{upto}
use Rattle.fab_link.specs.Meaning.{AreFresh}
use Rattle.fab_link.specs.Plain.{Plain}
use Rattle.fab_face.specs.Held.{Held, Seen}
use Rattle.fab_ep.specs.Value.{Whole}
use Rattle.fab_peer.specs.declared.peer.Peer.{Peer}
use Rattle.fab_peer.specs.declared.peer.seats.Unseated.{Unseated}
use Rattle.fab_peer.specs.Turns.{Living, living_of, told}
use Rattle.fab_merging.specs.Pasts.{Past, begun, past_of}
use Rattle.fab_finish.specs.Joined.{Member, told_of, member_steps, start}
use Rattle.fab_table.specs.declared.lane_table.LaneTable.{LaneTable}
use Rattle.fab_ring.specs.declared.port.RingPort.{RingPort}
use Rattle.fab_ring.specs.Gather.{AreAll}
use Rattle.fab_ring.specs.Ports.{number_of, peers_of, room_of, pool_of, table_of, moves_of, out_of, in_of}

abbrev pub Paired : {X Y : Type 0} → (X → Y → Type 0) → List X → List Y → Type 0
Paired {X} {Y} R xs ys = (k : ℕ) (x : X) (y : Y) → slice_get xs k ≡ Some x → slice_get ys k ≡ Some y → R x y

-- ---- over the table

abbrev pub seen_ring : Whole RingPort → Seen LaneTable
seen_ring e = record {
  held = e.held;
  log = e.log;
  log_size = e.log_size;
  pushed = e.pushed;
  lanes = record {
    number = number_of e.port;
    peers = peers_of e.port;
    outs = out_of e.port;
    ins = in_of e.port;
    home = table_of e.port;
    in_list = λ s. None;
    moves = Some (moves_of e.port);
  };
  next = e.next;
}

abbrev pub past_at : Peer (Whole RingPort) → Past
past_at p = past_of (told seen_ring p)

abbrev pub IsNew : ℕ → RingPort → Type 0
IsNew n p = (peers_of p ≡ n) × (moves_of p ≡ []) × ((d : ℕ) → AreFresh (out_of p d) (in_of p d))

pub record IsSized (conf : Conf) : Type 0 where
  pub peers : (0 < conf.peers) × (conf.peers ≤ 64)
  pub lane : (0 < conf.info.lane) × (conf.info.lane ≤ 1024)
  pub pool : (0 < conf.info.pool) × (conf.info.pool ≤ 1024)
  pub log : 4 ≤ conf.info.log

abbrev pub at_start : Conf → List Line → Living
at_start conf lines = record { held = start conf; lines = lines; results = []; kept = [] }

-- the peer with this number; one without a list has no lines
abbrev pub first_of : Conf → List (List Line) → ℕ → Living
first_of conf lists p = at_start conf (slice_index_or lists p [])

pub record AreReady (conf : Conf) (lists : List (List Line)) (pasts : List Past) (ports : List RingPort) : Type 0 where
  pub count : length ports ≡ conf.peers
  pub begun_are : pasts ≡ map (λ p. begun (first_of conf lists p)) (upto conf.peers)
  pub table : (f : LaneTable) × AreAll f ports

-- ports with as many cells a lane, and slots a pool, as were granted
abbrev pub AreSized : Conf → List RingPort → Type 0
AreSized conf ports = (k : ℕ) (p : RingPort) → slice_get ports k ≡ Some p → (room_of p ≡ conf.info.lane) × (pool_of p ≡ conf.info.pool)

-- ---- between the ports

abbrev pub living_with : Held → Unseated → Living
living_with h u = record { held = h; lines = u.lines; results = u.results.items; kept = u.kept }

abbrev pub past_with : Held → Unseated → RingPort → Past
past_with h u port = record {
  living = living_with h u;
  steps = u.schedule.items;
  moves = Some (moves_of port);
  outs = λ d. (out_of port d).frames;
  ins = λ s. (in_of port s).taken;
}

-- ---- over plain ports

pub record Seated (living : Living) (steps : List Step) (p : Member) : Type 0 where
  pub living_is : living_of (told_of p) ≡ living
  pub steps_are : member_steps p ≡ steps
  pub log : p.endpoint.log ≡ []

pub record Follows (x : Past) (q : Plain) (p : Member) : Type 0 where
  pub seated : Seated x.living x.steps p
  pub port : p.endpoint.port ≡ q

-- the past is of a peer at this port
pub record Tells (x : Past) (port : RingPort) : Type 0 where
  pub moves : x.moves ≡ Some (moves_of port)
  pub outs : (d : ℕ) → x.outs d ≡ (out_of port d).frames
  pub ins : (s : ℕ) → x.ins s ≡ (in_of port s).taken
