use Rattle.fab_doings.proofs.Hearing.{heard_in_turn}
use Rattle.fab_doings.proofs.heard.law_heard.Goals as goal

pub returns : goal.returns
returns c = record { heard = heard_in_turn }
