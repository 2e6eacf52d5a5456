use Rattle.std.proofs.Common.{sym}
use Rattle.fab_app.proofs.Chains.{none}
use Rattle.fab_app.proofs.Counting.{all_missed}
use Rattle.fab_app.proofs.Polling.{waits_on}
use Rattle.fab_app.proofs.Timing.{has_come_by, spins_by}
use Rattle.fab_app.proofs.endpoint.Endpoint.spun.Goals as goal

pub returns-then-is_settled-clause-some : goal.returns-then-is_settled-clause-some
returns-then-is_settled-clause-some g c = (
  spins_by _ _ _ _ _ c.spin-polled.result c.waited.result c.spin-polled.ensures.waits c.spin-polled.ensures.tries c.waited.ensures,
  has_come_by c.spin-polled.result c.waited.result c.waited.ensures (sym c.if-is_settled.ensures),
)

pub returns-else-is_settled-clause-moved : goal.returns-else-is_settled-clause-moved
returns-else-is_settled-clause-moved g c = waits_on _ _ _ _ _ _ (none _) c.spin-polled.ensures.waits (sym c.if-is_settled.ensures)

pub returns-else-is_settled-clause-none : goal.returns-else-is_settled-clause-none
returns-else-is_settled-clause-none g c = all_missed _ _ c.args.spins _ _ c.spin-polled.result c.spin-polled.ensures.tries (sym c.if-is_settled.ensures)
