use Rattle.fab_app.specs.Progresses.{Progresses}
use Rattle.fab_app.specs.Within.{Misses, Times}
use Rattle.fab_app.proofs.endpoint.Endpoint.spin.Given as goal

abbrev pub invariant-spins : goal.invariant-spins
invariant-spins g l = record {
  before : Progresses (g.E.Sees.seen l.fn.self) (g.E.Sees.seen l.self);
  missed : Times (Misses g.E.Sees.fixed 64) l._spin (g.E.Sees.seen l.fn.self) (g.E.Sees.seen l.self);
}
