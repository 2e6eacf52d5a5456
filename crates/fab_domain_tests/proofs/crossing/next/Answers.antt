use Rattle.fab_domain_tests.proofs.Staying.{looked}
use Rattle.fab_domain_tests.proofs.crossing.next.Goals as goal

pub returns-in-Some-clause-ins : goal.returns-in-Some-clause-ins
returns-in-Some-clause-ins g c = let after = c.front.follows.holds-at-none in looked (g.P.Port.ins c.args.port.now) (g.P.Port.ins c.front.follows.lender-at-none) c.args.src c.front.result after.0 after.1

pub returns-in-None-clause-ins : goal.returns-in-None-clause-ins
returns-in-None-clause-ins g c = let after = c.front.follows.holds-at-none in looked (g.P.Port.ins c.args.port.now) (g.P.Port.ins c.front.follows.lender-at-none) c.args.src c.front.result after.0 after.1
