use Rattle.std.proofs.Common.{rules, ◌≡◌, ◌∙◌, true, false, sym}
use Rattle.fab_model.specs.Receiving.{draw_due}
use Rattle.fab_ep.specs.Value.{seen}
use Rattle.fab_ep.proofs.Due.{drawing_none, drawing_on}
use Rattle.fab_ep.proofs.endpoint.Endpoint.draw_all.Goals as goal

pub returns-else-is_draw_due : goal.returns-else-is_draw_due
returns-else-is_draw_due g c =
    let asked : c.is_draw_due.result ≡ draw_due (seen g.P.Port c.args.self.now).held.state.rx = rw (← c.self.view_is) c.is_draw_due.ensures in
    (drawing_none (seen g.P.Port c.args.self.now), λ due. absurd (let no : false ≡ true = sym c.if-is_draw_due.false ∙ asked ∙ due in cc))

pub loop-init : goal.loop-init
loop-init g c = drawing_none (seen g.P.Port c.args.self.now)

pub loop-preserved : goal.loop-preserved
loop-preserved g c = drawing_on (seen g.P.Port c.args.self.now) (seen g.P.Port c.loop.self) _ c.loop.invariant (search rules)
