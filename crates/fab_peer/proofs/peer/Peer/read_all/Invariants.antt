use Rattle.std.proofs.Common.{◌-◌, length}
use Rattle.fab_peer.specs.Turns.{ReadOn, told}
use Rattle.fab_peer.proofs.peer.Peer.read_all.Given as goal

abbrev pub invariant-entries : goal.invariant-entries
invariant-entries g l = ReadOn (told g.E.Sees.seen l.fn.self) (told g.E.Sees.seen l.self) l.any

abbrev pub decreases-entries : goal.decreases-entries
decreases-entries g l = let cq = (g.E.Sees.seen l.self.endpoint).held.state.cq in length cq.written - cq.taken_out
