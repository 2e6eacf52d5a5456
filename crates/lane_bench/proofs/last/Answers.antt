use Rattle.lane_bench.specs.Ports.{IsNew}
use Rattle.fab_ring.proofs.Samples.{rest_is, last_is}
use Rattle.lane_bench.proofs.last.Goals as goal

pub returns-clause-rest : goal.returns-clause-rest
returns-clause-rest c = rest_is (IsNew c.args.peers) c.args.ports.now.items c.pop.new.self.items c.pop.result c.pop.ensures.items c.requires

pub returns-clause-new : goal.returns-clause-new
returns-clause-new c = last_is (IsNew c.args.peers) c.args.ports.now.items c.pop.new.self.items c.pop.result c.pop.ensures.items c.requires
