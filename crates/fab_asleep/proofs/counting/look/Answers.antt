use Rattle.std.proofs.Common.{true}
use Rattle.fab_app.proofs.Chains.{moved_on, none}
use Rattle.fab_asleep.proofs.Looks.{at_none, lacked_look, late_moves}
use Rattle.fab_asleep.proofs.counting.look.Goals as goal

pub returns-in-Ok-progress-clause-told : goal.returns-in-Ok-progress-clause-told
returns-in-Ok-progress-clause-told g c =
    let seen = g.E.Sees.seen in
    let told = g.C.Clock.told in
    late_moves g.E.Sees.fixed 64 c.args.moment.nanos (told c.args.clock.now) (told c.time_left.new.clock) (seen c.args.endpoint.now) (seen c.progress.new.self) (seen c.progress-in-Ok-None.new.self) c.progress.result c.progress-in-Ok-None.result true
    c.progress.ensures (at_none c.in-Ok-None.field-0 c.in-Ok-None.field-0-is c.in-Ok-None.ensures.passed) c.progress-in-Ok-None.ensures

pub returns-in-Err-progress-clause-told : goal.returns-in-Err-progress-clause-told
returns-in-Err-progress-clause-told g c =
    let seen = g.E.Sees.seen in
    let told = g.C.Clock.told in
    lacked_look g.E.Sees.fixed 64 c.args.moment.nanos (told c.args.clock.now) (told c.time_left.new.clock) (seen c.args.endpoint.now) (seen c.progress.new.self) (seen c.progress-in-Ok-None.new.self) c.in-Err-progress.field-0
    (moved_on _ _ _ _ _ _ (none _) c.progress.ensures) c.in-Err-progress.ensures
