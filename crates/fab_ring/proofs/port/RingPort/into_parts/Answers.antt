use Rattle.fab_ring.proofs.Releasing.{hand_empty}
use Rattle.fab_ring.proofs.port.RingPort.into_parts.Goals as goal

pub returns-clause-hand : goal.returns-clause-hand
returns-clause-hand c = let q = c.release.new.self in hand_empty _ _ _ _ _ _ _ _ _ _ _ q.seat.seat.me.1 q.fits c.release.ensures.part.closed
