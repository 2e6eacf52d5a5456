use Rattle.std.proofs.Common.{rules, ◌<◌}
use Rattle.fab_ep.specs.Value.{seen}
use Rattle.fab_ep.specs.Tries.{left_for}
use Rattle.fab_ep.proofs.Falling.{falls_pushed}
use Rattle.fab_ep.proofs.endpoint.Endpoint.push_on.Goals as goal

pub returns-clause-stays : goal.returns-clause-stays
returns-clause-stays g c = (let stays = rw (← c.self-2.view_is) at c.in_ok-tried.ensures.stays in λ k other. stays k other)

pub returns-clause-less : goal.returns-clause-less
returns-clause-less g c = λ is. (
    let less : left_for c.push_one.new.self.held c.args.dest < left_for c.args.self.now.held c.args.dest =
    falls_pushed (seen g.P.Port c.args.self.now) (seen g.P.Port c.push_one.new.self) c.args.dest c.in_ok-tried.tried (rw (← c.self.view_is) c.known.ensures) c.in_ok-tried.ensures.tries (search rules) in
    rw (← c.self-2.view_is) at less)
