use Rattle.std.proofs.Common.{◌≡◌, false}
use Rattle.fab_app.specs.Progresses.{Progresses}
use Rattle.fab_app.specs.Until.{timed, Until}
use Rattle.fab_app.specs.Within.{MovesOnce}
use Rattle.fab_asleep.proofs.counting.cntr_wait_asleep.Given as goal

abbrev pub invariant-turns : goal.invariant-turns
invariant-turns g l = record {
  before : Progresses (g.E.Sees.seen l.fn.endpoint) (g.E.Sees.seen l.endpoint);
  turns : Until (MovesOnce g.E.Sees.fixed 64) l.moment.nanos false (timed (g.C.Clock.told l.fn.clock) (g.E.Sees.seen l.fn.endpoint)) (timed (g.C.Clock.told l.clock) (g.E.Sees.seen l.endpoint));
  awake : l.fn.sleeper.says ≡ false → l.sleeper.says ≡ false;
}
