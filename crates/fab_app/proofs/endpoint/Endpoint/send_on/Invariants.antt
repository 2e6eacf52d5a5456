use Rattle.std.proofs.Common.{◌≡◌}
use Rattle.fab_app.specs.Progresses.{Progresses}
use Rattle.fab_app.specs.Trying.{sent_by}
use Rattle.fab_app.specs.Within.{SendMisses, Times}
use Rattle.fab_app.proofs.endpoint.Endpoint.send_on.Given as goal

abbrev pub invariant-times : goal.invariant-times
invariant-times g l = record {
  before : Progresses (g.E.Sees.seen l.fn.self) (g.E.Sees.seen l.self);
  buf : l.buf ≡ l.fn.buf;
  missed : Times (SendMisses g.E.Sees.fixed 64 (sent_by l.fn.message l.fn.buf)) l._time (g.E.Sees.seen l.fn.self) (g.E.Sees.seen l.self);
}
