use Rattle.std.proofs.Common.{rules}
use Rattle.fab_ep.specs.Value.{seen}
use Rattle.fab_ep.proofs.Accepting.{only_after, sends_out, sends_later}
use Rattle.fab_ep.proofs.endpoint.Endpoint.send_message.Goals as goal

pub let_out-requires-clause-only : goal.let_out-requires-clause-only
let_out-requires-clause-only g c = only_after (seen g.P.Port c.admit.new.self) (seen g.P.Port c.accept.new.self) _ c.args.message.now.dest c.in-Some.peer c.in-Some.ensures.some c.accept.ensures.did

pub returns-in_default-free-clause-ok : goal.returns-in_default-free-clause-ok
returns-in_default-free-clause-ok g c =
    sends_later g.P.Port.FIXED _ (seen g.P.Port c.args.self.now) (seen g.P.Port c.admit.new.self) (seen g.P.Port c.accept.new.self) c.args.message.now.dest (search rules) (search rules) c.accept.ensures.did c.accept.ensures.pushed c.accept.ensures.ins c.accept.ensures.next

pub returns-clause-ok : goal.returns-clause-ok
returns-clause-ok g c =
    sends_out g.P.Port.FIXED _ (seen g.P.Port c.args.self.now) (seen g.P.Port c.admit.new.self) (seen g.P.Port c.accept.new.self) (seen g.P.Port c.let_out.new.self) c.args.message.now.dest c.in-Some.peer (search rules) c.in-Some.ensures.some c.accept.ensures.did c.accept.ensures.pushed c.accept.ensures.ins c.accept.ensures.next c.let_out.ensures.out c.let_out.ensures.ins c.let_out.ensures.next
