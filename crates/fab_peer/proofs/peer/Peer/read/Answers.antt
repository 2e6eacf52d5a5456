use Rattle.std.proofs.Common.{Some, None, [], true, false, length}
use Rattle.fab_base.specs.declared.items.Kind.TheVariants.{ReadReq}
use Rattle.fab_model.specs.Calls.{request}
use Rattle.fab_peer.specs.Turns.{told}
use Rattle.fab_peer.proofs.Calling.{sends_line}
use Rattle.fab_peer.proofs.Requesting.{calls_read}
use Rattle.fab_peer.proofs.Leaving.{sends_left, same_left}
use Rattle.fab_peer.proofs.peer.Peer.read.Goals as goal

pub returns-clause-on : goal.returns-clause-on
returns-clause-on g c =
    let seen = g.E.Sees.seen in
    let a = told seen c.args.self.now in
    let buf = c.in_ok-buf.buf in
    sends_line a (seen c.read-answer.new.self) (request ReadReq (Some c.args.ctx) c.args.dest c.args.key c.args.at (length buf) [] None true false (Some buf))
    (calls_read a c.args.ctx c.args.dest c.args.key c.args.at c.args.len buf c.requires.next c.in_ok-buf.ensures) c.requires.log
    g.E.Sees.fixed c.args.dest buf c.read-answer.result c.why_of-why.result _ c.transmitted.result c.known.ensures
    c.read-answer.ensures.ok c.read-answer.ensures.err c.why_of-why.ensures c.transmitted.ensures.answered c.transmitted.ensures.moved

pub returns-clause-left : goal.returns-clause-left
returns-clause-left g c =
    let seen = g.E.Sees.seen in
    let a = told seen c.args.self.now in
    let buf = c.in_ok-buf.buf in
    sends_left a (seen c.read-answer.new.self) (request ReadReq (Some c.args.ctx) c.args.dest c.args.key c.args.at (length buf) [] None true false (Some buf))
    (calls_read a c.args.ctx c.args.dest c.args.key c.args.at c.args.len buf c.requires.next c.in_ok-buf.ensures) c.requires.log
    g.E.Sees.fixed c.args.dest buf c.read-answer.result _ c.transmitted.result
    c.read-answer.ensures.ok c.read-answer.ensures.err c.transmitted.ensures.left

pub returns-in_err-buf-clause-left : goal.returns-in_err-buf-clause-left
returns-in_err-buf-clause-left g c = same_left _ _
