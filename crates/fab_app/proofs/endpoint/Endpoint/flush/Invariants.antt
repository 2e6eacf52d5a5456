use Rattle.fab_app.specs.Progresses.{Progresses}
use Rattle.fab_app.specs.Within.{MovesOnce, Times}
use Rattle.fab_app.proofs.endpoint.Endpoint.flush.Given as goal

abbrev pub invariant-times : goal.invariant-times
invariant-times g l = record {
  before : Progresses (g.E.Sees.seen l.fn.self) (g.E.Sees.seen l.self);
  moved : Times (MovesOnce g.E.Sees.fixed 64) l._time (g.E.Sees.seen l.fn.self) (g.E.Sees.seen l.self);
}
