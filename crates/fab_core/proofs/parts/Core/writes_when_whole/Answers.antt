use Rattle.std.proofs.Common.{◌∙◌, sym, ap}
use Rattle.std.proofs.lemmas.Bool.{eq-eqb}
use Rattle.fab_settling.specs.Served.{writes_data}
use Rattle.fab_core.proofs.Feeding.{writes_first, writes_reply, writes_request}
use Rattle.fab_core.proofs.parts.Core.writes_when_whole.Goals as goal

pub returns-then-is_request : goal.returns-then-is_request
returns-then-is_request g c = c.writes_data.ensures ∙ ap (λ o. writes_data o c.args.head.now.item) (rw (← c.self.view_is) c.outcome.ensures) ∙ writes_request c.args.self.now (rw (← c.self.view_is) c.self.invariant.2) (rw (← c.self.view_is) c.known.ensures) c.args.source c.args.head.now c.requires.source c.requires.next (sym c.is_request.ensures ∙ c.if-is_request.true)

pub returns-then-is_reply : goal.returns-then-is_reply
returns-then-is_reply g c = (rw (← c.self.view_is) c.answer_writes.ensures) ∙ writes_reply c.args.self.now (rw (← c.self.view_is) c.self.invariant.2) (rw (← c.self.view_is) c.known.ensures) c.args.source c.args.head.now c.requires.source c.requires.next (sym c.is_reply.ensures ∙ c.if-is_reply.true)

pub returns-then-head-eq0 : goal.returns-then-head-eq0
returns-then-head-eq0 g c = (rw (← c.self.view_is) c.takes.ensures) ∙ writes_first c.args.self.now (rw (← c.self.view_is) c.self.invariant.2) (rw (← c.self.view_is) c.known.ensures) c.args.source c.args.head.now c.requires.source c.requires.next (sym c.is_request.ensures ∙ c.if-is_request.false) (sym c.is_reply.ensures ∙ c.if-is_reply.false) (eq-eqb _ _ c.if-head-eq0.true)
