use Rattle.fabric_uses.proofs.Turns.{moves_twice}
use Rattle.fabric_uses.proofs.moving.move_twice.Goals as goal

pub returns : goal.returns
returns g c = moves_twice g.E.Sees.fixed c.args.budget (g.E.Sees.seen c.args.endpoint.now) (g.E.Sees.seen c.progress-first.new.self) (g.E.Sees.seen c.progress-second.new.self) _ _ c.law_turns.ensures c.progress-first.ensures c.progress-second.ensures
