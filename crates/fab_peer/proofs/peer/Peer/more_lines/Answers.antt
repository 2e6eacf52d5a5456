use Rattle.fab_peer.specs.Turns.{told}
use Rattle.fab_peer.proofs.Turning.{no_lines}
use Rattle.fab_peer.proofs.peer.Peer.more_lines.Goals as goal

pub returns-else-wanted-clause-on : goal.returns-else-wanted-clause-on
returns-else-wanted-clause-on g c = no_lines (told g.E.Sees.seen c.args.self.now) c.requires.log (c.requires.held c.if-wanted.false)
