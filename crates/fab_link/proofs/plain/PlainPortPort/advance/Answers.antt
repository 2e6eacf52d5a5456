use Rattle.fab_link.proofs.Looks.{steps_of}
use Rattle.fab_link.proofs.plain.PlainPortPort.advance.Goals as goal

pub returns-clause-taken : goal.returns-clause-taken
returns-clause-taken c = steps_of _ _ _ c.requires.below c.requires.lent c.step.ensures
