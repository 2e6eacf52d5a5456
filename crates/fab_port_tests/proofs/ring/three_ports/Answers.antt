use Rattle.fab_ring.specs.Made.{rings_peers, rings_room, rings_pool, rings_table}
use Rattle.fab_port_tests.proofs.RingPorts.{ring_ready}
use Rattle.fab_port_tests.proofs.ring.three_ports.Goals as goal

pub three-requires : goal.three-requires
three-requires c = let r = c.in_ok-rings.rings in
    ring_ready 3 (rings_peers r) (rings_room r) (rings_pool r) (rings_table r) c.in_ok-ports.ports.items c.in_ok-rings.ensures.0 c.in_ok-ports.ensures
