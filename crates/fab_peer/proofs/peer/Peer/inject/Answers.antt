use Rattle.std.proofs.Common.{None, false, ◌∙◌}
use Rattle.fab_base.specs.declared.items.Kind.TheVariants.{Msg}
use Rattle.fab_base.specs.declared.peers.Level.TheVariants.{Inject}
use Rattle.fab_model.specs.Calls.{message}
use Rattle.fab_peer.specs.Turns.{told}
use Rattle.fab_peer.proofs.Calling.{injects_line, calls_inject}
use Rattle.fab_peer.proofs.Leaving.{injects_left}
use Rattle.fab_peer.proofs.peer.Peer.inject.Goals as goal

pub returns-clause-on : goal.returns-clause-on
returns-clause-on g c =
    let seen = g.E.Sees.seen in
    let a = told seen c.args.self.now in
    let next = c.requires.next in
    injects_line a (seen c.inject-why.new.self) (message Msg None c.args.dest 0 c.as_slice.result.now c.args.imm Inject false false)
    (calls_inject a c.args.dest next.0 c.args.imm c.as_slice.result.now next.1 (c.as_slice.ensures ∙ next.2)) c.requires.log
    g.E.Sees.fixed c.args.dest c.inject-why.result _ c.transmitted.result c.known.ensures
    c.inject-why.ensures.ok c.inject-why.ensures.err c.transmitted.ensures.answered c.transmitted.ensures.moved

pub returns-clause-left : goal.returns-clause-left
returns-clause-left g c =
    let seen = g.E.Sees.seen in
    let a = told seen c.args.self.now in
    let next = c.requires.next in
    injects_left a (seen c.inject-why.new.self) (message Msg None c.args.dest 0 c.as_slice.result.now c.args.imm Inject false false)
    (calls_inject a c.args.dest next.0 c.args.imm c.as_slice.result.now next.1 (c.as_slice.ensures ∙ next.2)) c.requires.log
    g.E.Sees.fixed c.args.dest c.inject-why.result _ c.transmitted.result
    c.inject-why.ensures.ok c.inject-why.ensures.err c.transmitted.ensures.left
