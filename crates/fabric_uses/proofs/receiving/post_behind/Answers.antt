use Rattle.fabric_uses.proofs.Posting.{posted_behind}
use Rattle.fabric_uses.proofs.receiving.post_behind.Goals as goal

pub returns-in-Ok-clause-behind : goal.returns-in-Ok-clause-behind
returns-in-Ok-clause-behind g c = posted_behind c.args.buf c.args.ctx _ _ c.in-Ok.ensures.ok
