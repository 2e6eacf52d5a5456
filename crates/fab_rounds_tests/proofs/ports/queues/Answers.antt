use Rattle.std.proofs.lemmas.Result.{IfOk-weaker}
use Rattle.fab_rounds_tests.proofs.Making.{queues_begin}
use Rattle.fab_rounds_tests.proofs.ports.queues.Goals as goal

pub returns-clause-begin : goal.returns-clause-begin
returns-clause-begin g c = IfOk-weaker c.ports.result _ _ (λ ports made. queues_begin c.args.conf.now.peers _ _ ports.items c.in_ok-queues.ensures.0 made) c.ports.ensures
