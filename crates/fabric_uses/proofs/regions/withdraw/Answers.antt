use Rattle.fabric_uses.proofs.Registering.{closed}
use Rattle.fabric_uses.proofs.regions.withdraw.Goals as goal

pub returns-in-Ok : goal.returns-in-Ok
returns-in-Ok g c = closed _ _ _ _ c.in-Ok.ensures.ok.answered
