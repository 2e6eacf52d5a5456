use Rattle.fab_port_tests.proofs.QueuePorts.{queue_made}
use Rattle.fab_port_tests.proofs.queue.two_ports.Goals as goal

pub returns : goal.returns
returns g c = let q = c.in_ok-queues.queues in
    queue_made q.peers q.lane c.in_ok-ports.ports.items c.pop.new.self.items c.pop-2.new.self.items c.in-Some-pop.zero c.in-Some.one
    (c.in_ok-queues.ensures {u = tt}).0 (c.in_ok-ports.ensures {u = tt}) c.in-Some.ensures.items c.in-Some-pop.ensures.items
