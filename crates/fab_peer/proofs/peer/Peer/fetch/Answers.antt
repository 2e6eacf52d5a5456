use Rattle.std.proofs.Common.{Some, [], true, false, length}
use Rattle.fab_base.specs.declared.items.Form.TheVariants.{Fetch}
use Rattle.fab_model.specs.Calls.{atomic}
use Rattle.fab_face.specs.Answers.{atom}
use Rattle.fab_peer.specs.Turns.{told}
use Rattle.fab_peer.proofs.Calling.{sends_line}
use Rattle.fab_peer.proofs.Requesting.{calls_fetch}
use Rattle.fab_peer.proofs.Leaving.{sends_left}
use Rattle.fab_peer.proofs.peer.Peer.fetch.Goals as goal

pub returns-clause-on : goal.returns-clause-on
returns-clause-on g c =
    let seen = g.E.Sees.seen in
    let a = told seen c.args.self.now in
    let next = c.requires.next in
    let operand = c.as_slice.result.now in
    sends_line a (seen c.fetch_atomic-answer.new.self) (atomic c.args.ctx c.args.dest c.args.key c.args.at (atom c.args.op c.args.num Fetch) (length c.args.buf) operand [] true false (Some c.args.buf))
    (calls_fetch a c.args.ctx c.args.dest c.args.key c.args.at c.args.op c.args.num c.args.operand.now next.0 operand c.args.buf next.1 c.as_slice.ensures next.2) c.requires.log
    g.E.Sees.fixed c.args.dest c.args.buf c.fetch_atomic-answer.result c.why_of-why.result _ c.transmitted.result c.known.ensures
    c.fetch_atomic-answer.ensures.ok c.fetch_atomic-answer.ensures.err c.why_of-why.ensures c.transmitted.ensures.answered c.transmitted.ensures.moved

pub returns-clause-left : goal.returns-clause-left
returns-clause-left g c =
    let seen = g.E.Sees.seen in
    let a = told seen c.args.self.now in
    let next = c.requires.next in
    let operand = c.as_slice.result.now in
    sends_left a (seen c.fetch_atomic-answer.new.self) (atomic c.args.ctx c.args.dest c.args.key c.args.at (atom c.args.op c.args.num Fetch) (length c.args.buf) operand [] true false (Some c.args.buf))
    (calls_fetch a c.args.ctx c.args.dest c.args.key c.args.at c.args.op c.args.num c.args.operand.now next.0 operand c.args.buf next.1 c.as_slice.ensures next.2) c.requires.log
    g.E.Sees.fixed c.args.dest c.args.buf c.fetch_atomic-answer.result _ c.transmitted.result
    c.fetch_atomic-answer.ensures.ok c.fetch_atomic-answer.ensures.err c.transmitted.ensures.left
