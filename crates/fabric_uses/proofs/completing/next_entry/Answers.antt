use Rattle.fabric_uses.proofs.Answering.{read_entry}
use Rattle.fabric_uses.proofs.completing.next_entry.Goals as goal

pub returns-in-Ok : goal.returns-in-Ok
returns-in-Ok g c = read_entry _ _ _ _ _ c.in-Ok.ensures c.entry_of.result c.entry_of.ensures
