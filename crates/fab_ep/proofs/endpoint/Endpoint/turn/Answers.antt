use Rattle.std.proofs.Common.{rules, ◌≡◌}
use Rattle.fab_model.specs.Receiving.{draw_due}
use Rattle.fab_face.specs.Answers.{HasPlaces, IsShort}
use Rattle.fab_ep.specs.Value.{seen}
use Rattle.fab_ep.proofs.Turning.{turn_short, turn_err, turned_round}
use Rattle.fab_ep.proofs.endpoint.Endpoint.turn.Goals as goal

pub returns-then-is_short-clause-turns : goal.returns-then-is_short-clause-turns
returns-then-is_short-clause-turns g c =
    let b = seen g.P.Port c.draw_all.new.self in
    let short : IsShort b = rw (← c.self.view_is) (c.is_short.ensures.short c.if-is_short.true) in
    turn_short g.P.Port.FIXED c.args.left (seen g.P.Port c.args.self.now) b c.args.self.now.next c.draw_all.new.self.next c.draw_all.ensures.0.next (rw (← c.self.view_is) c.self.invariant.2) c.draw_all.ensures short

pub returns-in_err-turn-clause-turns : goal.returns-in_err-turn-clause-turns
returns-in_err-turn-clause-turns g c =
    turn_err g.P.Port.FIXED c.args.left (seen g.P.Port c.args.self.now) (seen g.P.Port c.draw_all.new.self) (seen g.P.Port c.round.new.self) c.args.self.now.next c.draw_all.new.self.next c.round.new.self.next c.from_residual.result c.in_err-turn.field-0.0 (search rules) c.draw_all.ensures.0.next c.draw_all.ensures c.in_err-turn.ensures.rounds

pub returns-clause-turns : goal.returns-clause-turns
returns-clause-turns g c =
    let b = seen g.P.Port c.draw_all.new.self in
    let places : HasPlaces b = rw (← c.self.view_is) (c.is_short.ensures.room c.if-is_short.false) in
    let due : c.is_draw_due-due.result ≡ draw_due b.held.state.rx = rw (← c.self.view_is) c.is_draw_due-due.ensures in
    turned_round g.P.Port.FIXED c.args.left (seen g.P.Port c.args.self.now) b (seen g.P.Port c.round.new.self) c.args.self.now.next c.draw_all.new.self.next c.round.new.self.next c.is_draw_due-due.result c.in_ok-turn.turn c.draw_all.ensures.0.next c.draw_all.ensures places due c.in_ok-turn.ensures.rounds
