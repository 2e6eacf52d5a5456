-- What an endpoint over a port is, and how it is seen.
--     Whole         its value: its port, what is held, the log, and the lane whose turn is next
--     seen M e      the endpoint as the clauses of its traits speak of it
--     anew          as it begins to work over a port
--     opened        as it is opened
use Rattle.std.specs.Prelude.{ℕ, Bool, false, replicate, List, [], None}
use Rattle.fab_base.specs.declared.caps.Info.{Info}
use Rattle.fab_av.specs.Addresses.{Addresses}
use Rattle.fab_model.specs.Replay.{fresh}
use Rattle.fab_link.specs.declared.port.Port.{Ghosts}
use Rattle.fab_face.specs.declared.events.Event.{Event}
use Rattle.fab_face.specs.Held.{Held, Seen}
use Rattle.fab_face.specs.Ports.{lanes_in}
use Rattle.fab_face.specs.declared.lanes.Lane.{Lane}
use Rattle.fab_face.specs.declared.lanes.Lane.TheVariants.{To}

pub record Whole (P : Type 0) : Type 0 where
  pub port : P
  pub held : Held
  pub log : List Event
  pub log_size : ℕ
  pub pushed : Bool
  pub next : Lane

abbrev pub seen : {P : Type 0} → (M : Ghosts P) → Whole P → Seen M.Home
seen M e = record { held = e.held; log = e.log; log_size = e.log_size; pushed = e.pushed; lanes = lanes_in M e.port; next = e.next }

-- the log is empty, and the lane to peer 0 has the first turn
abbrev pub anew : {P : Type 0} → P → Held → ℕ → Whole P
anew port held log_size = record { port = port; held = held; log = []; log_size = log_size; pushed = false; next = To 0 }

abbrev pub opened : {P : Type 0} → P → Addresses → Info → Bool → Whole P
opened port av info selective = anew port (record {
  state = record (fresh (record { hints = None; info = info; peers = av.peers; selective = selective })) { av = av.indices };
  places = replicate av.peers 0;
  begun = replicate av.peers None;
  multis = [];
}) info.log
