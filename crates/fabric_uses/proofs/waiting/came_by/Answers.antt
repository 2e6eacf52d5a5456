use Rattle.std.proofs.Common.{sym, ◌∙◌}
use Rattle.std.proofs.lemmas.Bool.{leb-true}
use Rattle.fabric_uses.proofs.Lateness.{moved_late}
use Rattle.fabric_uses.proofs.waiting.came_by.Goals as goal

pub returns-in-Ok-clause-came : goal.returns-in-Ok-clause-came
returns-in-Ok-clause-came g c = λ t. leb-true _ _ (sym c.in-Ok.ensures.done ∙ t)

pub returns-in-Ok-clause-late : goal.returns-in-Ok-clause-late
returns-in-Ok-clause-late g c = λ is. moved_late _ _ _ _ _ _ c.in-Ok.ensures.until is
