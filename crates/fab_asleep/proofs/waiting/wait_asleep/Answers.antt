use Rattle.fab_app.specs.Until.{timed}
use Rattle.fab_app.proofs.Timing.{until_lacks, until_moves, until_polls, until_waits}
use Rattle.fab_asleep.proofs.waiting.wait_asleep.Goals as goal

pub returns-clause-waits : goal.returns-clause-waits
returns-clause-waits g c =
    until_waits g.E.Sees.fixed 64 0 c.args.moment.nanos (timed (g.C.Clock.told c.args.clock.now) (g.E.Sees.seen c.args.endpoint.now)) (timed (g.C.Clock.told c.turn_until.new.clock) (g.E.Sees.seen c.turn_until.new.endpoint)) c.turn_until.result
    c.turn_until.ensures.told

pub returns-clause-until : goal.returns-clause-until
returns-clause-until g c =
    until_polls g.E.Sees.fixed 64 0 c.args.moment.nanos (timed (g.C.Clock.told c.args.clock.now) (g.E.Sees.seen c.args.endpoint.now)) (timed (g.C.Clock.told c.turn_until.new.clock) (g.E.Sees.seen c.turn_until.new.endpoint)) c.turn_until.result
    c.turn_until.ensures.told

pub returns-clause-err : goal.returns-clause-err
returns-clause-err g c =
    until_moves g.E.Sees.fixed 64 0 c.args.moment.nanos (timed (g.C.Clock.told c.args.clock.now) (g.E.Sees.seen c.args.endpoint.now)) (timed (g.C.Clock.told c.turn_until.new.clock) (g.E.Sees.seen c.turn_until.new.endpoint)) c.turn_until.result
    c.turn_until.ensures.told

pub returns-clause-lacks : goal.returns-clause-lacks
returns-clause-lacks g c =
    until_lacks g.E.Sees.fixed 64 0 c.args.moment.nanos (timed (g.C.Clock.told c.args.clock.now) (g.E.Sees.seen c.args.endpoint.now)) (timed (g.C.Clock.told c.turn_until.new.clock) (g.E.Sees.seen c.turn_until.new.endpoint)) c.turn_until.result
    c.turn_until.ensures.told
