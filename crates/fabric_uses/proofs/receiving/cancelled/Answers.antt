use Rattle.fabric_uses.proofs.Cancelling.{cancelled_back}
use Rattle.fabric_uses.proofs.receiving.cancelled.Goals as goal

pub returns-in-Ok : goal.returns-in-Ok
returns-in-Ok g c = cancelled_back c.args.ctx _ _ c.in-Ok.ensures.ok c.back_now.result c.back_now.ensures
