use Rattle.std.proofs.Common.{arith}
use Rattle.fab_app.proofs.Ended.{in_use_is}
use Rattle.fab_app.proofs.endpoint.Endpoint.under_way.Goals as goal

pub returns : goal.returns
returns g c = let all = in_use_is (g.E.Sees.seen c.args.self.now).held.state in omega (arith, all, c.deferred.ensures, c.awaiting.ensures)
