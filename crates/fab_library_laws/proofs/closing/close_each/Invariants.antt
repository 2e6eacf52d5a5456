use Rattle.std.proofs.Common.{◌≡◌, ◌+◌, ◌≤◌, map, vec_capacity, vec_len}
use Rattle.std.specs.Vec.Iter.{into_iter_len}
use Rattle.std.specs.List.{All}
use Rattle.fab_face.specs.Held.{IsOpen}
use Rattle.fab_domain.specs.Domain.{port_of}
use Rattle.fab_domain.specs.Seen.{ring_seen}
use Rattle.fab_library_laws.proofs.closing.close_each.Given as goal

abbrev pub invariant-endpoints : goal.invariant-endpoints
invariant-endpoints l = record {
  ports : l.ports.items ≡ map port_of l.yielded;
  known : All (λ e. IsOpen (ring_seen e)) l.yielded;
  room : into_iter_len l.endpoint-iterator + vec_len l.ports ≤ vec_capacity l.ports;
}
