use Rattle.std.proofs.Common.{rules}
use Rattle.fab_ep.specs.Value.{seen}
use Rattle.fab_ep.proofs.Accepting.{only_after, sends_out, sends_later}
use Rattle.fab_ep.proofs.endpoint.Endpoint.go_out.Goals as goal

pub let_out-requires-clause-only : goal.let_out-requires-clause-only
let_out-requires-clause-only g c = only_after (seen g.P.Port c.args.self.now) (seen g.P.Port c.accept_copied.new.self) _ c.args.request.now.dest c.in-Some.peer c.in-Some.ensures.some c.accept_copied.ensures.did

pub returns-in_default : goal.returns-in_default
returns-in_default g c first admits =
    sends_later g.P.Port.FIXED _ first (seen g.P.Port c.args.self.now) (seen g.P.Port c.accept_copied.new.self) c.args.request.now.dest admits (search rules) c.accept_copied.ensures.did c.accept_copied.ensures.pushed c.accept_copied.ensures.ins c.accept_copied.ensures.next

pub returns : goal.returns
returns g c first admits =
    sends_out g.P.Port.FIXED _ first (seen g.P.Port c.args.self.now) (seen g.P.Port c.accept_copied.new.self) (seen g.P.Port c.let_out.new.self) c.args.request.now.dest c.in-Some.peer admits c.in-Some.ensures.some c.accept_copied.ensures.did c.accept_copied.ensures.pushed c.accept_copied.ensures.ins c.accept_copied.ensures.next c.let_out.ensures.out c.let_out.ensures.ins c.let_out.ensures.next
