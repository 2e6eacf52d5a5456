use Rattle.fab_ring.specs.Ports.{part_of, SamePort}
use Rattle.fab_ring.proofs.Releasing.{Releasing}
use Rattle.fab_ring.proofs.port.RingPort.release.Given as goal

abbrev pub invariant-loop-src : goal.invariant-loop-src
invariant-loop-src l = record { port : SamePort l.fn.self l.self; part : Releasing l.src (part_of l.fn.self) (part_of l.self) }
