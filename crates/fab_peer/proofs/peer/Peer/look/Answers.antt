use Rattle.std.proofs.Common.{refl}
use Rattle.fab_model.specs.Calls.{Look}
use Rattle.fab_peer.specs.Turns.{told}
use Rattle.fab_peer.proofs.Calling.{receives_line, calls_look}
use Rattle.fab_peer.proofs.Leaving.{receives_left}
use Rattle.fab_peer.proofs.peer.Peer.look.Goals as goal

pub returns-clause-on : goal.returns-clause-on
returns-clause-on g c =
    let seen = g.E.Sees.seen in
    let a = told seen c.args.self.now in
    receives_line a (seen c.look_by-answer.new.endpoint) (Look c.args.how c.args.source c.args.tag c.args.ignore c.args.ctx)
    (calls_look a c.args.how c.args.ctx c.args.source c.args.tag c.args.ignore c.requires.next) c.requires.log
    c.look_by-answer.result c.look_by-answer.result _ c.received.result c.known.ensures c.known-2.ensures
    c.look_by-answer.ensures.ok c.look_by-answer.ensures.err refl c.received.ensures.answered c.received.ensures.moved

pub returns-clause-left : goal.returns-clause-left
returns-clause-left g c =
    let seen = g.E.Sees.seen in
    let a = told seen c.args.self.now in
    receives_left a (seen c.look_by-answer.new.endpoint) (Look c.args.how c.args.source c.args.tag c.args.ignore c.args.ctx)
    (calls_look a c.args.how c.args.ctx c.args.source c.args.tag c.args.ignore c.requires.next) c.requires.log
    c.look_by-answer.result _ c.received.result
    c.look_by-answer.ensures.ok c.look_by-answer.ensures.err c.received.ensures.left
