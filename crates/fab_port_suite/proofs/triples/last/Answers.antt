use Rattle.fab_base.proofs.Lists.{rest_is, last_is}
use Rattle.fab_port_suite.specs.Lanes.{IsReady}
use Rattle.fab_port_suite.proofs.triples.last.Goals as goal

pub returns-clause-rest : goal.returns-clause-rest
returns-clause-rest g c = rest_is (IsReady g.P.Port c.args.peers) c.args.ports.now.items c.pop.new.self.items c.pop.result c.pop.ensures.items c.requires

pub returns-clause-last : goal.returns-clause-last
returns-clause-last g c = last_is (IsReady g.P.Port c.args.peers) c.args.ports.now.items c.pop.new.self.items c.pop.result c.pop.ensures.items c.requires
