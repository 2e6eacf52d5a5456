use Rattle.fab_face.specs.Answers.{ReceivesNot, Receives}
use Rattle.fab_model.specs.Calls.{TakeClaimed}
use Rattle.fab_peer.specs.Turns.{told, why_of}
use Rattle.fab_peer.proofs.Calling.{receives_line, calls_take, why_ok, why_err}
use Rattle.fab_peer.proofs.Leaving.{receives_left, same_left}
use Rattle.fab_peer.proofs.peer.Peer.take.Goals as goal

pub returns-clause-on : goal.returns-clause-on
returns-clause-on g c =
    let seen = g.E.Sees.seen in
    let a = told seen c.args.self.now in
    let e = seen c.take-answer.new.self in
    let call = TakeClaimed c.in_ok-buf.buf c.args.ctx in
    receives_line a e call
    (calls_take a c.args.ctx c.args.len c.in_ok-buf.buf c.requires.next c.in_ok-buf.ensures) c.requires.log
    (why_of c.take-answer.result) c.why_of-why.result _ c.received.result c.known.ensures c.known-2.ensures
    (why_ok (Receives call a.seen e) c.take-answer.result c.take-answer.ensures.ok) (why_err (ReceivesNot call a.seen e) c.in_ok-buf.buf c.take-answer.result c.take-answer.ensures.err)
    c.why_of-why.ensures c.received.ensures.answered c.received.ensures.moved

pub returns-clause-left : goal.returns-clause-left
returns-clause-left g c =
    let seen = g.E.Sees.seen in
    let a = told seen c.args.self.now in
    let e = seen c.take-answer.new.self in
    let call = TakeClaimed c.in_ok-buf.buf c.args.ctx in
    receives_left a e call
    (calls_take a c.args.ctx c.args.len c.in_ok-buf.buf c.requires.next c.in_ok-buf.ensures) c.requires.log
    (why_of c.take-answer.result) _ c.received.result
    (why_ok (Receives call a.seen e) c.take-answer.result c.take-answer.ensures.ok) (why_err (ReceivesNot call a.seen e) c.in_ok-buf.buf c.take-answer.result c.take-answer.ensures.err)
    c.received.ensures.left

pub returns-in_err-buf-clause-left : goal.returns-in_err-buf-clause-left
returns-in_err-buf-clause-left g c = same_left _ _
