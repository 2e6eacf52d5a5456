use Rattle.fab_laws.proofs.Turning.{all_told_in_turn}
use Rattle.fab_laws.proofs.in_turn.law_in_turn.Goals as goal

pub returns : goal.returns
returns c = record { told = all_told_in_turn }
