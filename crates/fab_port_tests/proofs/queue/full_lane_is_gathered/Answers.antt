use Rattle.fab_queue.specs.Ports.{lanes_of}
use Rattle.fab_port_tests.proofs.QueuePorts.{still_paired}
use Rattle.fab_port_tests.proofs.queue.full_lane_is_gathered.Goals as goal

pub pair_gathered-requires-clause-lanes : goal.pair_gathered-requires-clause-lanes
pair_gathered-requires-clause-lanes g c = let e = c.fills-filled.ensures in
    still_paired (lanes_of c.in-Ok.zero) (lanes_of c.in-Ok.one) (lanes_of c.fills-filled.new.zero) (lanes_of c.fills-filled.new.one) e.zero.2 e.one.2 c.in-Ok.ensures.2
