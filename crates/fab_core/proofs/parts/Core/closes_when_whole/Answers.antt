use Rattle.std.proofs.Common.{◌∙◌}
use Rattle.std.proofs.lemmas.Bool.{eq-eqb, ne_eqb}
use Rattle.fab_core.proofs.Feeding.{closes_first, closes_later}
use Rattle.fab_core.proofs.parts.Core.closes_when_whole.Goals as goal

pub returns-then-head-eq0 : goal.returns-then-head-eq0
returns-then-head-eq0 g c = (rw (← c.self.view_is) c.first_closes.ensures) ∙ closes_first c.args.self.now.rx c.args.source c.args.head.now.from c.args.head.now.item (eq-eqb _ _ c.if-head-eq0.true)

pub returns-else-head-eq0 : goal.returns-else-head-eq0
returns-else-head-eq0 g c = (rw (← c.self.view_is) c.closes.ensures) ∙ closes_later c.args.self.now.rx c.args.source c.args.head.now.from c.args.head.now.item (ne_eqb _ _ c.if-head-eq0.false)
