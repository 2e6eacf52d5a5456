use Rattle.fab_port_tests.proofs.QueuePorts.{queue_ready}
use Rattle.fab_port_tests.proofs.queue.three_ports.Goals as goal

pub three-requires : goal.three-requires
three-requires g c = let q = c.in_ok-queues.queues in
    queue_ready 3 q.peers q.lane c.in_ok-ports.ports.items c.in_ok-queues.ensures.0 c.in_ok-ports.ensures
