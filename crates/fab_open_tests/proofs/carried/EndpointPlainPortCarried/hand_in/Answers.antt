use Rattle.fab_open_tests.proofs.Ports.{brought_if, others_if}
use Rattle.fab_open_tests.proofs.carried.EndpointPlainPortCarried.hand_in.Goals as goal

pub returns-clause-came : goal.returns-clause-came
returns-clause-came g c = brought_if c.bring.result c.is_ok.result c.args.self.now.port c.bring.new.self.port c.args.source c.args.frame c.is_ok.ensures.value c.requires.below c.bring.ensures.ok

pub returns-clause-others : goal.returns-clause-others
returns-clause-others g c s holds apart = others_if c.bring.result c.is_ok.result c.args.self.now.port c.bring.new.self.port c.args.source c.args.frame s c.is_ok.ensures.value c.bring.ensures.ok holds apart
