use Rattle.std.proofs.Common.{subst}
use Rattle.fab_rx.specs.declared.stored.Way.{Way}
use Rattle.fab_rx.specs.Stored.{GoesBy}
use Rattle.fab_rx.proofs.Completing.{into_more}
use Rattle.fab_rx.proofs.filling.go_on.Goals as goal

pub returns-in-Into-clause-coming : goal.returns-in-Into-clause-coming
returns-in-Into-clause-coming c parcels source way item so_far goes =
    into_more parcels source c.args.got way item c.in-Into.seat c.args.bytes.now c.place.new.buf so_far (subst (λ (w : Way). GoesBy parcels source w way item) c.in-Into.is goes) c.place.ensures
