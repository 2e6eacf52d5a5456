use Rattle.fabric_uses.proofs.Coming.{cuts}
use Rattle.fabric_uses.proofs.receiving.receive_cut.Goals as goal

pub returns-then-receives : goal.returns-then-receives
returns-then-receives g c = cuts c.args.tag c.args.buf c.args.ctx _ _ (c.receives.ensures c.if-receives.true) c.cut_now.result c.cut_now.ensures
