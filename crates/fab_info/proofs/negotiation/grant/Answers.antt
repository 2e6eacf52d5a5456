use Rattle.std.proofs.Common.{sym}
use Rattle.fab_info.proofs.Granting.{IsKept-from, Includes-granted, IsWithin-granted, CannotBeHad-refused}
use Rattle.fab_info.proofs.negotiation.grant.Goals as goal

pub returns-then-is_refused-clause-reason : goal.returns-then-is_refused-clause-reason
returns-then-is_refused-clause-reason c = CannotBeHad-refused c.args.api c.args.hints.now (sym c.if-is_refused.ensures)

pub returns-clause-asked : goal.returns-clause-asked
returns-clause-asked c = rw c.granted.ensures (Includes-granted c.args.api c.args.hints.now.caps (IsKept-from c.args.api c.args.hints.now (sym c.if-is_refused.ensures)).caps)

pub returns-clause-limits : goal.returns-clause-limits
returns-clause-limits c = rw c.granted.ensures (IsWithin-granted c.args.api c.args.hints.now (sym c.if-is_refused.ensures))
