use Rattle.std.proofs.Common.{◌+◌, ◌*◌}
use Rattle.fab_app.specs.Progresses.{Progresses}
use Rattle.fab_app.specs.Within.{Misses, Times}
use Rattle.fab_app.proofs.endpoint.Endpoint.wait_turns.Given as goal

abbrev pub invariant-turns : goal.invariant-turns
invariant-turns g l = record {
  before : Progresses (g.E.Sees.seen l.fn.self) (g.E.Sees.seen l.self);
  missed : Times (Misses g.E.Sees.fixed 64) (l._turn * (l.spins + 1)) (g.E.Sees.seen l.fn.self) (g.E.Sees.seen l.self);
}
