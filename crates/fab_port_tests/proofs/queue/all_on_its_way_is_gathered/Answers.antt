use Rattle.fab_queue.specs.Ports.{lanes_of}
use Rattle.fab_port_tests.proofs.QueuePorts.{still_paired}
use Rattle.fab_port_tests.proofs.queue.all_on_its_way_is_gathered.Goals as goal

pub pair_gathered-requires-clause-lanes : goal.pair_gathered-requires-clause-lanes
pair_gathered-requires-clause-lanes g c = let e = c.send_on_their_way-sent.ensures in
    still_paired (lanes_of c.in-Ok.zero) (lanes_of c.in-Ok.one) (lanes_of c.send_on_their_way-sent.new.zero) (lanes_of c.send_on_their_way-sent.new.one) e.zero.2 e.one.2 c.in-Ok.ensures.2
