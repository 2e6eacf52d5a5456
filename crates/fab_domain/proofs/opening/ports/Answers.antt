use Rattle.fab_domain.proofs.Opened.{lanes}
use Rattle.fab_domain.proofs.opening.ports.Goals as goal

pub returns : goal.returns
returns c = let e = c.in_ok-new.ensures in lanes c.ports.result c.args.info.now _ _ _ _ e.0 e.1 e.2 c.ports.ensures
