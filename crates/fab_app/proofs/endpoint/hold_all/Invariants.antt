use Rattle.std.proofs.Common.{◌≡◌}
use Rattle.fab_app.proofs.endpoint.hold_all.Given as goal

abbrev pub invariant-endpoints : goal.invariant-endpoints
invariant-endpoints g l = l.all.items ≡ l.yielded
