use Rattle.std.proofs.Common.{Some, false, rules}
use Rattle.fab_face.specs.Answers.{receive_call, ReceivesNot, Receives}
use Rattle.fab_peer.specs.Turns.{told, why_of}
use Rattle.fab_peer.proofs.Calling.{receives_line, calls_mrecv, why_ok, why_err}
use Rattle.fab_peer.proofs.Leaving.{receives_left, same_left}
use Rattle.fab_peer.proofs.peer.Peer.mrecv.Goals as goal

pub returns-clause-on : goal.returns-clause-on
returns-clause-on g c =
    let seen = g.E.Sees.seen in
    let a = told seen c.args.self.now in
    let e = seen c.recv_multi-answer.new.self in
    let call = receive_call false c.args.source 0 0 c.in_ok-buf.buf (Some c.unwrap_or-least.result) c.args.ctx in
    receives_line a e call
    (calls_mrecv a c.args.ctx c.args.source c.args.len c.args.min c.in_ok-buf.buf c.unwrap_or-least.result c.requires.next c.in_ok-buf.ensures (search rules)) c.requires.log
    (why_of c.recv_multi-answer.result) c.why_of-why.result _ c.received.result c.known.ensures c.known-2.ensures
    (why_ok (Receives call a.seen e) c.recv_multi-answer.result c.recv_multi-answer.ensures.ok) (why_err (ReceivesNot call a.seen e) c.in_ok-buf.buf c.recv_multi-answer.result c.recv_multi-answer.ensures.err)
    c.why_of-why.ensures c.received.ensures.answered c.received.ensures.moved

pub returns-clause-left : goal.returns-clause-left
returns-clause-left g c =
    let seen = g.E.Sees.seen in
    let a = told seen c.args.self.now in
    let e = seen c.recv_multi-answer.new.self in
    let call = receive_call false c.args.source 0 0 c.in_ok-buf.buf (Some c.unwrap_or-least.result) c.args.ctx in
    receives_left a e call
    (calls_mrecv a c.args.ctx c.args.source c.args.len c.args.min c.in_ok-buf.buf c.unwrap_or-least.result c.requires.next c.in_ok-buf.ensures (search rules)) c.requires.log
    (why_of c.recv_multi-answer.result) _ c.received.result
    (why_ok (Receives call a.seen e) c.recv_multi-answer.result c.recv_multi-answer.ensures.ok) (why_err (ReceivesNot call a.seen e) c.in_ok-buf.buf c.recv_multi-answer.result c.recv_multi-answer.ensures.err)
    c.received.ensures.left

pub returns-in_err-buf-clause-left : goal.returns-in_err-buf-clause-left
returns-in_err-buf-clause-left g c = same_left _ _
