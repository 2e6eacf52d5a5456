use Rattle.fab_link.specs.Frames.{frame}
use Rattle.fab_core.proofs.Feeding.{ends_within}
use Rattle.fab_core.proofs.machine.CoreMachine.take.Goals as goal

pub is_last-requires : goal.is_last-requires
is_last-requires g c = ends_within c.args.self.now (rw (← c.self.view_is) c.known.ensures) c.args.source (frame c.args.head.now c.args.bytes.now) c.requires.next c.requires.cut
