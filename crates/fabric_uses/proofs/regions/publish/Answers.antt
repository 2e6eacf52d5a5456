use Rattle.fabric_uses.proofs.Registering.{ok_map, registered}
use Rattle.fabric_uses.proofs.regions.publish.Goals as goal

pub returns-clause-held : goal.returns-clause-held
returns-clause-held g c = ok_map c.reg.result c.reg.ensures.ok (λ l. registered _ _ _ _ _ l.answered)
