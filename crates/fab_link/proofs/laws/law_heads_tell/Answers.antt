use Rattle.fab_link.proofs.Parts.{parts_tell}
use Rattle.fab_link.proofs.laws.law_heads_tell.Goals as goal

pub returns : goal.returns
returns c = parts_tell
