use Rattle.std.proofs.Common.{None, false, ◌∙◌}
use Rattle.fab_base.specs.declared.items.Kind.TheVariants.{WriteReq}
use Rattle.fab_model.specs.Calls.{request}
use Rattle.fab_peer.specs.Turns.{told}
use Rattle.fab_peer.proofs.Calling.{injects_line}
use Rattle.fab_peer.proofs.Requesting.{calls_winject}
use Rattle.fab_peer.proofs.Leaving.{injects_left}
use Rattle.fab_peer.proofs.peer.Peer.inject_write.Goals as goal

pub returns-clause-on : goal.returns-clause-on
returns-clause-on g c =
    let seen = g.E.Sees.seen in
    let a = told seen c.args.self.now in
    let next = c.requires.next in
    injects_line a (seen c.inject_write-why.new.self) (request WriteReq None c.args.dest c.args.key c.args.at 0 c.as_slice.result.now c.args.imm false false None)
    (calls_winject a c.args.dest c.args.key c.args.at next.0 c.args.imm c.as_slice.result.now next.1 (c.as_slice.ensures ∙ next.2)) c.requires.log
    g.E.Sees.fixed c.args.dest c.inject_write-why.result _ c.transmitted.result c.known.ensures
    c.inject_write-why.ensures.ok c.inject_write-why.ensures.err c.transmitted.ensures.answered c.transmitted.ensures.moved

pub returns-clause-left : goal.returns-clause-left
returns-clause-left g c =
    let seen = g.E.Sees.seen in
    let a = told seen c.args.self.now in
    let next = c.requires.next in
    injects_left a (seen c.inject_write-why.new.self) (request WriteReq None c.args.dest c.args.key c.args.at 0 c.as_slice.result.now c.args.imm false false None)
    (calls_winject a c.args.dest c.args.key c.args.at next.0 c.args.imm c.as_slice.result.now next.1 (c.as_slice.ensures ∙ next.2)) c.requires.log
    g.E.Sees.fixed c.args.dest c.inject_write-why.result _ c.transmitted.result
    c.inject_write-why.ensures.ok c.inject_write-why.ensures.err c.transmitted.ensures.left
