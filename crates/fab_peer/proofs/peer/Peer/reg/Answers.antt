use Rattle.fab_peer.specs.Turns.{told}
use Rattle.fab_peer.proofs.Alone.{reg_line}
use Rattle.fab_peer.proofs.Leaving.{reg_left}
use Rattle.fab_peer.proofs.peer.Peer.reg.Goals as goal

pub returns-clause-on : goal.returns-clause-on
returns-clause-on g c =
    let seen = g.E.Sees.seen in
    let a = told seen c.args.self.now in
    let next = c.requires.next in
    reg_line c.settled.result a (told seen c.settled.new.self) (seen c.reg-answer.new.self) c.args.key c.args.access next.0 c.args.buf c.reg-answer.result c.why_of.result next.1 next.2 c.requires.log
    c.reg-answer.ensures.ok c.reg-answer.ensures.err c.why_of.ensures c.settled.ensures.told c.settled.ensures.memory c.settled.ensures.done

pub returns-clause-left : goal.returns-clause-left
returns-clause-left g c =
    let seen = g.E.Sees.seen in
    let a = told seen c.args.self.now in
    let next = c.requires.next in
    reg_left c.settled.result a (told seen c.settled.new.self) (seen c.reg-answer.new.self) c.args.key c.args.access next.0 c.args.buf c.reg-answer.result next.1 next.2
    c.reg-answer.ensures.ok c.reg-answer.ensures.err c.settled.ensures.left
