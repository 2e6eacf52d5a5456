use Rattle.std.proofs.Common.{◌≡◌, length}
use Rattle.fab_app.specs.Late.{Drew}
use Rattle.fab_app.proofs.endpoint.Endpoint.ask_on.Given as goal

abbrev pub invariant-late : goal.invariant-late
invariant-late g l = record {
  drew : Drew (g.E.Sees.seen l.fn.self) (g.E.Sees.seen l.self-inside.inner);
  buf : l.buf ≡ l.fn.buf;
}

abbrev pub decreases-late : goal.decreases-late
decreases-late g l = length (g.E.Sees.seen l.self-inside.inner).held.state.rx.unexpected
