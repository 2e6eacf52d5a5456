use Rattle.std.proofs.Common.{rules, ◌<◌}
use Rattle.fab_ep.specs.Value.{seen}
use Rattle.fab_ep.specs.Tries.{left_for}
use Rattle.fab_ep.proofs.Letting.{falls_out}
use Rattle.fab_ep.proofs.endpoint.Endpoint.let_out_one.Goals as goal

pub returns-clause-less : goal.returns-clause-less
returns-clause-less g c = λ is. (
    let less : left_for c.post_here.new.self.held c.args.dest < left_for c.args.self.now.held c.args.dest =
    falls_out (seen g.P.Port c.args.self.now) (seen g.P.Port c.post_here.new.self) c.args.dest c.in-Ok.tried (rw (← c.self.view_is) c.known.ensures) c.in-Ok.ensures.posts (search rules) in
    rw (← c.self-2.view_is) at less)
