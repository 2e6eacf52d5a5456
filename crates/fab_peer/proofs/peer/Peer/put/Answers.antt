use Rattle.std.proofs.Common.{◌∙◌}
use Rattle.fab_model.specs.Calls.{Put}
use Rattle.fab_peer.specs.Turns.{told}
use Rattle.fab_peer.proofs.Alone.{calls_put, put_final, settled_line, always}
use Rattle.fab_peer.proofs.Leaving.{settled_left}
use Rattle.fab_peer.proofs.peer.Peer.put.Goals as goal

pub returns-clause-on : goal.returns-clause-on
returns-clause-on g c =
    let seen = g.E.Sees.seen in
    let a = told seen c.args.self.now in
    let next = c.requires.next in
    let src = c.as_slice.result.now in
    settled_line c.settled.result a (told seen c.settled.new.self) (seen c.put-answer.new.self) (Put c.args.key c.args.at src) c.put-answer.result
    (calls_put a c.args.key c.args.at next.0 src next.1 (c.as_slice.ensures ∙ next.2)) (put_final c.args.key c.args.at src) c.requires.log
    c.put-answer.ensures.ok (always _ c.put-answer.result c.put-answer.ensures.err) c.settled.ensures.told c.settled.ensures.memory c.settled.ensures.done

pub returns-clause-left : goal.returns-clause-left
returns-clause-left g c =
    let seen = g.E.Sees.seen in
    let a = told seen c.args.self.now in
    let next = c.requires.next in
    let src = c.as_slice.result.now in
    settled_left c.settled.result a (told seen c.settled.new.self) (seen c.put-answer.new.self) (Put c.args.key c.args.at src) c.put-answer.result
    (calls_put a c.args.key c.args.at next.0 src next.1 (c.as_slice.ensures ∙ next.2)) (put_final c.args.key c.args.at src) c.put-answer.ensures.ok c.put-answer.ensures.err c.settled.ensures.left
