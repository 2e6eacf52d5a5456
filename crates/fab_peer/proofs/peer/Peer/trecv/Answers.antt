use Rattle.std.proofs.Common.{None, true}
use Rattle.fab_face.specs.Answers.{receive_call, ReceivesNot, Receives}
use Rattle.fab_peer.specs.Turns.{told, why_of}
use Rattle.fab_peer.proofs.Calling.{receives_line, calls_trecv, why_ok, why_err}
use Rattle.fab_peer.proofs.Leaving.{receives_left, same_left}
use Rattle.fab_peer.proofs.peer.Peer.trecv.Goals as goal

pub returns-clause-on : goal.returns-clause-on
returns-clause-on g c =
    let seen = g.E.Sees.seen in
    let a = told seen c.args.self.now in
    let e = seen c.trecv-answer.new.self in
    let call = receive_call true c.args.source c.args.tag c.args.ignore c.in_ok-buf.buf None c.args.ctx in
    receives_line a e call
    (calls_trecv a c.args.ctx c.args.source c.args.tag c.args.ignore c.args.len c.in_ok-buf.buf c.requires.next c.in_ok-buf.ensures) c.requires.log
    (why_of c.trecv-answer.result) c.why_of-why.result _ c.received.result c.known.ensures c.known-2.ensures
    (why_ok (Receives call a.seen e) c.trecv-answer.result c.trecv-answer.ensures.ok) (why_err (ReceivesNot call a.seen e) c.in_ok-buf.buf c.trecv-answer.result c.trecv-answer.ensures.err)
    c.why_of-why.ensures c.received.ensures.answered c.received.ensures.moved

pub returns-clause-left : goal.returns-clause-left
returns-clause-left g c =
    let seen = g.E.Sees.seen in
    let a = told seen c.args.self.now in
    let e = seen c.trecv-answer.new.self in
    let call = receive_call true c.args.source c.args.tag c.args.ignore c.in_ok-buf.buf None c.args.ctx in
    receives_left a e call
    (calls_trecv a c.args.ctx c.args.source c.args.tag c.args.ignore c.args.len c.in_ok-buf.buf c.requires.next c.in_ok-buf.ensures) c.requires.log
    (why_of c.trecv-answer.result) _ c.received.result
    (why_ok (Receives call a.seen e) c.trecv-answer.result c.trecv-answer.ensures.ok) (why_err (ReceivesNot call a.seen e) c.in_ok-buf.buf c.trecv-answer.result c.trecv-answer.ensures.err)
    c.received.ensures.left

pub returns-in_err-buf-clause-left : goal.returns-in_err-buf-clause-left
returns-in_err-buf-clause-left g c = same_left _ _
