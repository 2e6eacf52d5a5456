use Rattle.std.proofs.Common.{Some, true, false, length}
use Rattle.fab_base.specs.declared.items.Form.TheVariants.{Compare}
use Rattle.fab_model.specs.Calls.{atomic}
use Rattle.fab_face.specs.Answers.{atom}
use Rattle.fab_peer.specs.Turns.{told}
use Rattle.fab_peer.proofs.Calling.{sends_line}
use Rattle.fab_peer.proofs.Requesting.{calls_compare}
use Rattle.fab_peer.proofs.Leaving.{sends_left}
use Rattle.fab_peer.proofs.peer.Peer.compare.Goals as goal

pub returns-clause-on : goal.returns-clause-on
returns-clause-on g c =
    let seen = g.E.Sees.seen in
    let a = told seen c.args.self.now in
    let operand = c.as_slice.result.now in
    let compares = c.as_slice-2.result.now in
    sends_line a (seen c.compare_atomic-answer.new.self) (atomic c.args.ctx c.args.dest c.args.key c.args.at (atom c.args.op c.args.num Compare) (length c.args.buf) operand compares true false (Some c.args.buf))
    (calls_compare a c.args.ctx c.args.dest c.args.key c.args.at c.args.op c.args.num c.args.operand.now c.args.compares.now operand compares c.args.buf c.requires.next c.as_slice.ensures c.as_slice-2.ensures c.requires.buf) c.requires.log
    g.E.Sees.fixed c.args.dest c.args.buf c.compare_atomic-answer.result c.why_of-why.result _ c.transmitted.result c.known.ensures
    c.compare_atomic-answer.ensures.ok c.compare_atomic-answer.ensures.err c.why_of-why.ensures c.transmitted.ensures.answered c.transmitted.ensures.moved

pub returns-clause-left : goal.returns-clause-left
returns-clause-left g c =
    let seen = g.E.Sees.seen in
    let a = told seen c.args.self.now in
    let operand = c.as_slice.result.now in
    let compares = c.as_slice-2.result.now in
    sends_left a (seen c.compare_atomic-answer.new.self) (atomic c.args.ctx c.args.dest c.args.key c.args.at (atom c.args.op c.args.num Compare) (length c.args.buf) operand compares true false (Some c.args.buf))
    (calls_compare a c.args.ctx c.args.dest c.args.key c.args.at c.args.op c.args.num c.args.operand.now c.args.compares.now operand compares c.args.buf c.requires.next c.as_slice.ensures c.as_slice-2.ensures c.requires.buf) c.requires.log
    g.E.Sees.fixed c.args.dest c.args.buf c.compare_atomic-answer.result _ c.transmitted.result
    c.compare_atomic-answer.ensures.ok c.compare_atomic-answer.ensures.err c.transmitted.ensures.left
