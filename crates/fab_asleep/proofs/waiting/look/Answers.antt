use Rattle.fab_asleep.proofs.Looks.{at_none, at_some, came_look, early_look, late_look}
use Rattle.fab_asleep.proofs.waiting.look.Goals as goal

pub returns-in-Err-clause-told : goal.returns-in-Err-clause-told
returns-in-Err-clause-told g c =
    let seen = g.E.Sees.seen in
    came_look g.E.Sees.fixed 64 c.args.moment.nanos (g.C.Clock.told c.args.clock.now) (seen c.args.endpoint.now) (seen c.polled.new.endpoint) c.in-Err.told c.in-Err.ensures.told

pub returns-in-Ok-Some-clause-nothing : goal.returns-in-Ok-Some-clause-nothing
returns-in-Ok-Some-clause-nothing g c =
    let seen = g.E.Sees.seen in
    let told = g.C.Clock.told in
    early_look g.E.Sees.fixed 64 c.args.moment.nanos (told c.args.clock.now) (told c.time_left.new.clock) (seen c.args.endpoint.now) (seen c.polled.new.endpoint) c.in-Ok.ensures.missed (at_some c.in-Ok-Some.field-0 c.in-Ok-Some.nanos c.in-Ok-Some.field-0-is c.in-Ok-Some.ensures.left)

pub returns-in-Ok-None-clause-told : goal.returns-in-Ok-None-clause-told
returns-in-Ok-None-clause-told g c =
    let seen = g.E.Sees.seen in
    let told = g.C.Clock.told in
    late_look g.E.Sees.fixed 64 c.args.moment.nanos (told c.args.clock.now) (told c.time_left.new.clock) (seen c.args.endpoint.now) (seen c.polled.new.endpoint) (seen c.poll.new.self) c.poll.result c.waited.result c.in-Ok.ensures.missed
    c.in-Ok.ensures.moved (at_none c.in-Ok-None.field-0 c.in-Ok-None.field-0-is c.in-Ok-None.ensures.passed) c.poll.ensures c.waited.ensures
