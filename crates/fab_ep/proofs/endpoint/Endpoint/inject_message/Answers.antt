use Rattle.std.proofs.Common.{rules}
use Rattle.fab_ep.specs.Value.{seen}
use Rattle.fab_ep.proofs.Accepting.{only_after, sends_out, sends_later}
use Rattle.fab_ep.proofs.endpoint.Endpoint.inject_message.Goals as goal

pub let_out-requires-clause-only : goal.let_out-requires-clause-only
let_out-requires-clause-only g c = only_after (seen g.P.Port c.admit.new.self) (seen g.P.Port c.accept_copy.new.self) _ c.args.message.now.dest c.in-Some.peer c.in-Some.ensures.some c.accept_copy.ensures.did

pub returns-in_default-clause-ok : goal.returns-in_default-clause-ok
returns-in_default-clause-ok g c =
    sends_later g.P.Port.FIXED _ (seen g.P.Port c.args.self.now) (seen g.P.Port c.admit.new.self) (seen g.P.Port c.accept_copy.new.self) c.args.message.now.dest (search rules) (search rules) c.accept_copy.ensures.did c.accept_copy.ensures.pushed c.accept_copy.ensures.ins c.accept_copy.ensures.next

pub returns-clause-ok : goal.returns-clause-ok
returns-clause-ok g c =
    sends_out g.P.Port.FIXED _ (seen g.P.Port c.args.self.now) (seen g.P.Port c.admit.new.self) (seen g.P.Port c.accept_copy.new.self) (seen g.P.Port c.let_out.new.self) c.args.message.now.dest c.in-Some.peer (search rules) c.in-Some.ensures.some c.accept_copy.ensures.did c.accept_copy.ensures.pushed c.accept_copy.ensures.ins c.accept_copy.ensures.next c.let_out.ensures.out c.let_out.ensures.ins c.let_out.ensures.next
