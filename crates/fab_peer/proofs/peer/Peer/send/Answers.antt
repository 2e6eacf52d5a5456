use Rattle.std.proofs.Common.{Some}
use Rattle.fab_base.specs.declared.items.Kind.TheVariants.{Msg}
use Rattle.fab_model.specs.Calls.{message}
use Rattle.fab_peer.specs.Turns.{told}
use Rattle.fab_peer.proofs.Calling.{sends_line, calls_send}
use Rattle.fab_peer.proofs.Leaving.{sends_left}
use Rattle.fab_peer.proofs.peer.Peer.send.Goals as goal

pub returns-clause-on : goal.returns-clause-on
returns-clause-on g c =
    let seen = g.E.Sees.seen in
    let a = told seen c.args.self.now in
    let next = c.requires.next in
    sends_line a (seen c.send-answer.new.self) (message Msg (Some c.args.ctx) c.args.dest 0 c.args.buf c.args.imm c.args.flags.level c.args.flags.completion c.args.flags.fence)
    (calls_send a c.args.ctx c.args.dest next.0 c.args.imm c.args.flags.level c.args.flags.completion c.args.flags.fence c.args.buf next.1 next.2) c.requires.log
    g.E.Sees.fixed c.args.dest c.args.buf c.send-answer.result c.why_of-why.result _ c.transmitted.result c.known.ensures
    c.send-answer.ensures.ok c.send-answer.ensures.err c.why_of-why.ensures c.transmitted.ensures.answered c.transmitted.ensures.moved

pub returns-clause-left : goal.returns-clause-left
returns-clause-left g c =
    let seen = g.E.Sees.seen in
    let a = told seen c.args.self.now in
    let next = c.requires.next in
    sends_left a (seen c.send-answer.new.self) (message Msg (Some c.args.ctx) c.args.dest 0 c.args.buf c.args.imm c.args.flags.level c.args.flags.completion c.args.flags.fence)
    (calls_send a c.args.ctx c.args.dest next.0 c.args.imm c.args.flags.level c.args.flags.completion c.args.flags.fence c.args.buf next.1 next.2) c.requires.log
    g.E.Sees.fixed c.args.dest c.args.buf c.send-answer.result _ c.transmitted.result
    c.send-answer.ensures.ok c.send-answer.ensures.err c.transmitted.ensures.left
