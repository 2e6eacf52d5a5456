use Rattle.fabric_uses.proofs.Calm.{entry_read}
use Rattle.fabric_uses.proofs.completing.entry_now.Goals as goal

pub returns-in-Ok : goal.returns-in-Ok
returns-in-Ok g c = λ none. entry_read _ _ _ _ c.in-Ok.ensures none c.entry_of.result c.entry_of.ensures
