use Rattle.fabric_uses.proofs.Answering.{idle_drawn, idle_read}
use Rattle.fabric_uses.proofs.completing.is_idle.Goals as goal

pub returns-in-Ok-clause-read : goal.returns-in-Ok-clause-read
returns-in-Ok-clause-read g c = λ t. idle_read _ _ _ _ _ c.in-Ok.ensures (c.tells_idle.ensures t)

pub returns-in-Ok-clause-drawn : goal.returns-in-Ok-clause-drawn
returns-in-Ok-clause-drawn g c = λ t. idle_drawn _ _ _ _ _ c.in-Ok.ensures (c.tells_idle.ensures t)
