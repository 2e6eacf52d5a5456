use Rattle.fab_face.proofs.Fairness.{each_has_its_turn}
use Rattle.fab_face.proofs.laws.law_turns.Goals as goal

pub returns : goal.returns
returns g c = each_has_its_turn g.E.Sees.fixed
