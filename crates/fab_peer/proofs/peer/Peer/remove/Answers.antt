use Rattle.fab_model.specs.Calls.{Remove}
use Rattle.fab_peer.specs.Turns.{told}
use Rattle.fab_peer.proofs.Alone.{calls_remove, remove_final, settled_line, always}
use Rattle.fab_peer.proofs.Leaving.{settled_left}
use Rattle.fab_peer.proofs.peer.Peer.remove.Goals as goal

pub returns-clause-on : goal.returns-clause-on
returns-clause-on g c =
    let seen = g.E.Sees.seen in
    let a = told seen c.args.self.now in
    settled_line c.settled.result a (told seen c.settled.new.self) (seen c.remove-answer.new.self) (Remove c.args.index) c.remove-answer.result
    (calls_remove a c.args.index c.requires.next) (remove_final c.args.index) c.requires.log
    c.remove-answer.ensures.ok (always _ c.remove-answer.result c.remove-answer.ensures.err) c.settled.ensures.told c.settled.ensures.memory c.settled.ensures.done

pub returns-clause-left : goal.returns-clause-left
returns-clause-left g c =
    let seen = g.E.Sees.seen in
    let a = told seen c.args.self.now in
    settled_left c.settled.result a (told seen c.settled.new.self) (seen c.remove-answer.new.self) (Remove c.args.index) c.remove-answer.result
    (calls_remove a c.args.index c.requires.next) (remove_final c.args.index) c.remove-answer.ensures.ok c.remove-answer.ensures.err c.settled.ensures.left
