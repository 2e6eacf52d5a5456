use Rattle.std.proofs.Common.{refl}
use Rattle.fab_model.specs.Calls.{Cancel}
use Rattle.fab_peer.specs.Turns.{told}
use Rattle.fab_peer.proofs.Calling.{receives_line, calls_cancel}
use Rattle.fab_peer.proofs.Leaving.{receives_left}
use Rattle.fab_peer.proofs.peer.Peer.cancel.Goals as goal

pub returns-clause-on : goal.returns-clause-on
returns-clause-on g c =
    let seen = g.E.Sees.seen in
    let a = told seen c.args.self.now in
    receives_line a (seen c.cancel-answer.new.self) (Cancel c.args.ctx) (calls_cancel a c.args.ctx c.requires.next) c.requires.log
    c.cancel-answer.result c.cancel-answer.result _ c.received.result c.known.ensures c.known-2.ensures
    c.cancel-answer.ensures.ok c.cancel-answer.ensures.err refl c.received.ensures.answered c.received.ensures.moved

pub returns-clause-left : goal.returns-clause-left
returns-clause-left g c =
    let seen = g.E.Sees.seen in
    let a = told seen c.args.self.now in
    receives_left a (seen c.cancel-answer.new.self) (Cancel c.args.ctx) (calls_cancel a c.args.ctx c.requires.next) c.requires.log
    c.cancel-answer.result _ c.received.result
    c.cancel-answer.ensures.ok c.cancel-answer.ensures.err c.received.ensures.left
