use Rattle.fabric_uses.proofs.Lateness.{asked_late}
use Rattle.fabric_uses.proofs.waiting.is_crowded.Goals as goal

pub returns-in-Err : goal.returns-in-Err
returns-in-Err g c = λ t. asked_late _ _ _ _ _ _ _ c.in-Err.ensures.gives_up (c.is_for_now.ensures t)
