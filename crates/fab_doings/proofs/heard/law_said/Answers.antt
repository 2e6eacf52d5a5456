use Rattle.fab_doings.proofs.Saying.{heard_is_said}
use Rattle.fab_doings.proofs.heard.law_said.Goals as goal

pub returns : goal.returns
returns c = record { said = heard_is_said }
