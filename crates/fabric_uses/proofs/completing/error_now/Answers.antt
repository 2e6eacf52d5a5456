use Rattle.fabric_uses.proofs.Calm.{error_read}
use Rattle.fabric_uses.proofs.completing.error_now.Goals as goal

pub returns-in-Ok : goal.returns-in-Ok
returns-in-Ok g c = λ none. error_read _ _ _ _ c.in-Ok.ensures none c.error_of.result c.error_of.ensures
