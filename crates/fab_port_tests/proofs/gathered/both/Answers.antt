use Rattle.fab_port_suite.proofs.Lists.{last_two}
use Rattle.fab_port_tests.proofs.gathered.both.Goals as goal

pub returns : goal.returns
returns c = last_two c.args.ports.items c.pop.new.self.items c.pop-2.new.self.items c.in-Some-pop.zero c.in-Some.one c.requires c.in-Some.ensures.items c.in-Some-pop.ensures.items
