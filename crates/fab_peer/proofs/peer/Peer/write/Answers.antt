use Rattle.std.proofs.Common.{Some}
use Rattle.fab_base.specs.declared.items.Kind.TheVariants.{WriteReq}
use Rattle.fab_model.specs.Calls.{request}
use Rattle.fab_peer.specs.Turns.{told}
use Rattle.fab_peer.proofs.Calling.{sends_line}
use Rattle.fab_peer.proofs.Requesting.{calls_write}
use Rattle.fab_peer.proofs.Leaving.{sends_left}
use Rattle.fab_peer.proofs.peer.Peer.write.Goals as goal

pub returns-clause-on : goal.returns-clause-on
returns-clause-on g c =
    let seen = g.E.Sees.seen in
    let a = told seen c.args.self.now in
    let next = c.requires.next in
    sends_line a (seen c.write-answer.new.self) (request WriteReq (Some c.args.ctx) c.args.dest c.args.key c.args.at 0 c.args.buf c.args.imm c.args.flags.completion c.args.flags.fence (Some c.args.buf))
    (calls_write a c.args.ctx c.args.dest c.args.key c.args.at next.0 c.args.imm c.args.flags.completion c.args.flags.fence c.args.buf next.1 next.2) c.requires.log
    g.E.Sees.fixed c.args.dest c.args.buf c.write-answer.result c.why_of-why.result _ c.transmitted.result c.known.ensures
    c.write-answer.ensures.ok c.write-answer.ensures.err c.why_of-why.ensures c.transmitted.ensures.answered c.transmitted.ensures.moved

pub returns-clause-left : goal.returns-clause-left
returns-clause-left g c =
    let seen = g.E.Sees.seen in
    let a = told seen c.args.self.now in
    let next = c.requires.next in
    sends_left a (seen c.write-answer.new.self) (request WriteReq (Some c.args.ctx) c.args.dest c.args.key c.args.at 0 c.args.buf c.args.imm c.args.flags.completion c.args.flags.fence (Some c.args.buf))
    (calls_write a c.args.ctx c.args.dest c.args.key c.args.at next.0 c.args.imm c.args.flags.completion c.args.flags.fence c.args.buf next.1 next.2) c.requires.log
    g.E.Sees.fixed c.args.dest c.args.buf c.write-answer.result _ c.transmitted.result
    c.write-answer.ensures.ok c.write-answer.ensures.err c.transmitted.ensures.left
