use Rattle.std.proofs.Common.{None, [], length}
use Rattle.fab_base.specs.declared.items.Form.TheVariants.{Base}
use Rattle.fab_model.specs.Calls.{atomic}
use Rattle.fab_face.specs.Answers.{atom}
use Rattle.fab_peer.specs.Turns.{told}
use Rattle.fab_peer.proofs.Calling.{injects_line}
use Rattle.fab_peer.proofs.Requesting.{calls_atomic}
use Rattle.fab_peer.proofs.Leaving.{injects_left}
use Rattle.fab_peer.proofs.peer.Peer.atomic.Goals as goal

pub returns-clause-on : goal.returns-clause-on
returns-clause-on g c =
    let seen = g.E.Sees.seen in
    let a = told seen c.args.self.now in
    let operand = c.as_slice.result.now in
    injects_line a (seen c.atomic-why.new.self) (atomic c.args.ctx c.args.dest c.args.key c.args.at (atom c.args.op c.args.num Base) (length operand) operand [] c.args.flags.completion c.args.flags.fence None)
    (calls_atomic a c.args.ctx c.args.dest c.args.key c.args.at c.args.op c.args.num c.args.operand.now c.args.flags.completion c.args.flags.fence operand c.requires.next c.as_slice.ensures) c.requires.log
    g.E.Sees.fixed c.args.dest c.atomic-why.result _ c.transmitted.result c.known.ensures
    c.atomic-why.ensures.ok c.atomic-why.ensures.err c.transmitted.ensures.answered c.transmitted.ensures.moved

pub returns-clause-left : goal.returns-clause-left
returns-clause-left g c =
    let seen = g.E.Sees.seen in
    let a = told seen c.args.self.now in
    let operand = c.as_slice.result.now in
    injects_left a (seen c.atomic-why.new.self) (atomic c.args.ctx c.args.dest c.args.key c.args.at (atom c.args.op c.args.num Base) (length operand) operand [] c.args.flags.completion c.args.flags.fence None)
    (calls_atomic a c.args.ctx c.args.dest c.args.key c.args.at c.args.op c.args.num c.args.operand.now c.args.flags.completion c.args.flags.fence operand c.requires.next c.as_slice.ensures) c.requires.log
    g.E.Sees.fixed c.args.dest c.atomic-why.result _ c.transmitted.result
    c.atomic-why.ensures.ok c.atomic-why.ensures.err c.transmitted.ensures.left
