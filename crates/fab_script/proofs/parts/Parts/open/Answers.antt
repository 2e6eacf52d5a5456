use Rattle.std.proofs.Common.{refl}
use Rattle.fab_script.proofs.HoldsLemmas.{holds_open}
use Rattle.fab_script.proofs.parts.Parts.open.Goals as goal

pub returns : goal.returns
returns c = λ n items h. holds_open n c.args.peer c.args.self.now _ items h refl c.in_ok-push.ensures.items refl c.requires.fresh
