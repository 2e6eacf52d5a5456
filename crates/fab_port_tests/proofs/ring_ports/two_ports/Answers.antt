use Rattle.fab_ring.specs.Made.{rings_peers, rings_room, rings_pool, rings_table}
use Rattle.fab_port_tests.proofs.RingPorts.{ring_made}
use Rattle.fab_port_tests.proofs.ring_ports.two_ports.Goals as goal

pub returns : goal.returns
returns c = let r = c.in_ok-rings.rings in
    ring_made (rings_peers r) (rings_room r) (rings_pool r) (rings_table r) c.in_ok-ports.ports.items c.pop.new.self.items c.pop-2.new.self.items c.in-Some-pop.zero c.in-Some.one
    (c.in_ok-rings.ensures {u = tt}).0 (c.in_ok-ports.ensures {u = tt}) c.in-Some.ensures.items c.in-Some-pop.ensures.items
