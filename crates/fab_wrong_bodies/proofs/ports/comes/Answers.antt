use Rattle.fab_wrong_bodies.proofs.AnyPort.{saw_none}
use Rattle.fab_wrong_bodies.proofs.ports.comes.Goals as goal

pub returns : goal.returns
returns g c = let after = c.front.follows.holds-at-none in record { after = (c.front.result, c.is_some.ensures, after.0); saw = saw_none c.front.result _ c.is_some.ensures after.7 }
