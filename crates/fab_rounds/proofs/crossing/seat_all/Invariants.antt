use Rattle.std.proofs.Common.{◌≡◌, drop, take, length}
use Rattle.std.specs.Prelude.{map}
use Rattle.fab_rounds.specs.Phases.{Paired, Seated, living_with}
use Rattle.fab_rounds.proofs.crossing.seat_all.Given as goal

abbrev pub invariant-loop-peer : goal.invariant-loop-peer
invariant-loop-peer g l = record {
  rest : l.parted.items ≡ drop l._peer l.fn.parted.items;
  left : l.ports.items ≡ drop l._peer l.fn.ports.items;
  count : length l.peers.items ≡ l._peer;
  placed : map (λ p. p.endpoint.port) l.peers.items ≡ take l._peer l.fn.ports.items;
  each : Paired (λ w p. Seated (living_with (g.C.Machine.held w.machine) w.peer) w.peer.schedule.items p) l.fn.parted.items l.peers.items;
}
