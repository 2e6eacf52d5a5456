use Rattle.std.proofs.Common.{◌≡◌}
use Rattle.fab_app.specs.Late.{asked}
use Rattle.fab_app.specs.Progresses.{Progresses}
use Rattle.fab_app.specs.Within.{AskMisses, Times}
use Rattle.fab_app.proofs.endpoint.Endpoint.ask_within.Given as goal

abbrev pub invariant-times : goal.invariant-times
invariant-times g l = record {
  before : Progresses (g.E.Sees.seen l.fn.self) (g.E.Sees.seen l.self);
  buf : l.buf ≡ l.fn.buf;
  missed : Times (AskMisses g.E.Sees.fixed 64 (asked l.fn.ask l.fn.ctx l.fn.buf)) l._time (g.E.Sees.seen l.fn.self) (g.E.Sees.seen l.self);
}
