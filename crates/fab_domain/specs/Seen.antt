-- What contracts see of an endpoint over lanes.
--     ring_seen e      what is held, the log, and the lanes as its port means them
use Rattle.std.specs.Prelude.{None, Some}
use Rattle.fab_face.specs.Held.{Seen}
use Rattle.fab_ep.specs.Value.{Whole}
use Rattle.fab_ring.specs.Ports.{in_of, moves_of, number_of, out_of, peers_of, table_of}
use Rattle.fab_ring.specs.declared.port.RingPort.{RingPort}
use Rattle.fab_table.specs.declared.lane_table.LaneTable.{LaneTable}

unfoldable pub ring_seen : Whole RingPort → Seen LaneTable
ring_seen e = record {
  held = e.held;
  log = e.log;
  log_size = e.log_size;
  pushed = e.pushed;
  lanes = record {
    number = number_of e.port;
    peers = peers_of e.port;
    outs = out_of e.port;
    ins = in_of e.port;
    home = table_of e.port;
    in_list = λ s. None;
    moves = Some (moves_of e.port);
  };
  next = e.next;
}
