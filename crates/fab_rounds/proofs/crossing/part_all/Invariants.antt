use Rattle.std.proofs.Common.{◌≡◌, drop, take, length}
use Rattle.std.specs.Prelude.{map}
use Rattle.fab_face.specs.Held.{IsOpen}
use Rattle.fab_peer.specs.Turns.{IsCounted}
use Rattle.fab_rounds.specs.Phases.{Paired, seen_ring, past_at, past_with, living_with}
use Rattle.fab_rounds.proofs.crossing.part_all.Given as goal

abbrev pub invariant-loop-peer : goal.invariant-loop-peer
invariant-loop-peer g l = record {
  rest : l.runners.items ≡ drop l._peer l.fn.runners.items;
  count : length l.parted.items ≡ l._peer;
  ports : l.ports.items ≡ take l._peer (map (λ r. r.peer.endpoint.port) l.fn.runners.items);
  each : Paired (λ r w. (past_with (g.C.Machine.held w.machine) w.peer r.peer.endpoint.port ≡ past_at r.peer) × IsOpen (seen_ring r.peer.endpoint) × IsCounted (living_with (g.C.Machine.held w.machine) w.peer)) l.fn.runners.items l.parted.items;
}
