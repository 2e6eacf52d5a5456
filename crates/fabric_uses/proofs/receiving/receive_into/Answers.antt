use Rattle.fabric_uses.proofs.Coming.{fills}
use Rattle.fabric_uses.proofs.receiving.receive_into.Goals as goal

pub returns-then-receives : goal.returns-then-receives
returns-then-receives g c = fills c.args.tag c.args.buf c.args.ctx _ _ (c.receives.ensures c.if-receives.true) c.received_now.result c.received_now.ensures
