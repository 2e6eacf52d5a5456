use Rattle.fabric_uses.proofs.Lateness.{waited_late, waited_read}
use Rattle.fabric_uses.proofs.waiting.is_late.Goals as goal

pub returns-in-Ok-clause-passed : goal.returns-in-Ok-clause-passed
returns-in-Ok-clause-passed g c = λ t. waited_late _ _ _ _ _ _ _ c.in-Ok.ensures.until (c.is_none.ensures t)

pub returns-in-Ok-clause-read : goal.returns-in-Ok-clause-read
returns-in-Ok-clause-read g c = λ t. waited_read _ _ _ _ _ _ _ c.in-Ok.ensures.until (c.is_none.ensures t)
