use Rattle.fab_link.specs.Frames.{frame}
use Rattle.fab_core.specs.Parts.{held_of}
use Rattle.fab_core.proofs.Feeding.{goes_more}
use Rattle.fab_core.proofs.parts.Core.take_more.Goals as goal

pub returns-clause-yes : goal.returns-clause-yes
returns-clause-yes g c = goes_more c.args.self.now (rw (← c.self.view_is) c.self.invariant.2) (rw (← c.self.view_is) c.known.ensures) c.args.source (frame c.args.head.now c.args.bytes.now) c.requires.source c.requires.next c.requires.ready (held_of c.feed.new.self) c.in_ok-feed.ensures.ok c.requires.more
