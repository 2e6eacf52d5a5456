use Rattle.std.proofs.Common.{arith, sym, ◌∙◌}
use Rattle.std.proofs.lemmas.Bool.{leb-true}
use Rattle.fabric_uses.proofs.ending.counts_past.Goals as goal

pub returns-in-Ok : goal.returns-in-Ok
returns-in-Ok g c = λ t. let reached = leb-true _ _ (sym c.in-Ok.ensures.done ∙ t) in omega (arith, reached)
