use Rattle.fab_app.specs.Until.{timed}
use Rattle.fab_app.specs.Within.{MovesOnce}
use Rattle.fab_app.proofs.Chains.{moved_on, none}
use Rattle.fab_app.proofs.Counting.{moved_once}
use Rattle.fab_app.proofs.Polling.{moves_lacked}
use Rattle.fab_app.proofs.Timing.{failed_by, lacked_by, late_step}
use Rattle.fab_app.proofs.endpoint.Endpoint.move_by.Goals as goal

pub returns-in_err-progress : goal.returns-in_err-progress
returns-in_err-progress g c =
    let seen = g.E.Sees.seen in
    let told = g.C.Clock.told in
    lacked_by g.E.Sees.fixed 64 c.args.moment.nanos (timed (told c.args.clock.now) (seen c.args.self.now)) (timed (told c.args.clock.now) (seen c.progress.new.self)) c.from_residual.result c.from_residual.ensures.1
    (moved_on _ _ _ _ _ _ (none _) c.progress.ensures) (moves_lacked _ _ _ _ _ c.in_err-progress.ensures)

pub returns-in_err-passed : goal.returns-in_err-passed
returns-in_err-passed g c =
    let seen = g.E.Sees.seen in
    let told = g.C.Clock.told in
    failed_by g.E.Sees.fixed 64 c.args.moment.nanos (timed (told c.args.clock.now) (seen c.args.self.now)) (timed (told c.has_passed.new.clock) (seen c.progress.new.self)) c.from_residual-in_err-passed.result c.from_residual-in_err-passed.ensures.1
    (moved_on _ _ _ _ _ _ (none _) c.progress.ensures)

pub returns-then-passed : goal.returns-then-passed
returns-then-passed g c =
    let seen = g.E.Sees.seen in
    let told = g.C.Clock.told in
    let last = late_step (MovesOnce g.E.Sees.fixed 64) c.args.moment.nanos (told c.args.clock.now) (told c.has_passed.new.clock) (seen c.args.self.now) (seen c.progress.new.self) c.in_ok-passed.passed (moved_once _ _ _ _ c.progress.result c.progress.ensures) c.in_ok-passed.ensures c.if-passed.true in
    (moved_on _ _ _ _ _ _ (moved_on _ _ _ _ _ _ (none _) c.progress.ensures) c.progress-then-passed.ensures, (seen c.progress.new.self, last, moved_once _ _ _ _ c.progress-then-passed.result c.progress-then-passed.ensures))

pub returns-in_err-progress-2 : goal.returns-in_err-progress-2
returns-in_err-progress-2 g c =
    let seen = g.E.Sees.seen in
    let told = g.C.Clock.told in
    lacked_by g.E.Sees.fixed 64 c.args.moment.nanos (timed (told c.args.clock.now) (seen c.args.self.now)) (timed (told c.has_passed.new.clock) (seen c.progress-then-passed.new.self)) c.from_residual-in_err-progress-2.result
    c.from_residual-in_err-progress-2.ensures.1 (moved_on _ _ _ _ _ _ (moved_on _ _ _ _ _ _ (none _) c.progress.ensures) c.progress-then-passed.ensures) (moves_lacked _ _ _ _ _ c.in_err-progress-2.ensures)
