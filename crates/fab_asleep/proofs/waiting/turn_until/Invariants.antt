use Rattle.std.proofs.Common.{◌≡◌, false}
use Rattle.fab_app.specs.Progresses.{Progresses}
use Rattle.fab_app.specs.Until.{timed, Until}
use Rattle.fab_app.specs.Within.{Misses, Times}
use Rattle.fab_asleep.proofs.waiting.turn_until.Given as goal

abbrev pub invariant-turns : goal.invariant-turns
invariant-turns g l = record {
  before : Progresses (g.E.Sees.seen l.fn.endpoint) (g.E.Sees.seen l.endpoint);
  turns : Until (Times (Misses g.E.Sees.fixed 64) 1) l.moment.nanos false (timed (g.C.Clock.told l.fn.clock) (g.E.Sees.seen l.fn.endpoint)) (timed (g.C.Clock.told l.clock) (g.E.Sees.seen l.endpoint));
  awake : l.fn.sleeper.says ≡ false → l.sleeper.says ≡ false;
}
