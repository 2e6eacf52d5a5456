use Rattle.std.proofs.Common.{Some}
use Rattle.fab_base.specs.declared.items.Kind.TheVariants.{TagMsg}
use Rattle.fab_model.specs.Calls.{message}
use Rattle.fab_app.specs.Until.{timed}
use Rattle.fab_app.proofs.TimedTries.{send_err, send_failed, send_gives_up, send_kept, send_never, send_ok, send_until}
use Rattle.fab_app.proofs.endpoint.Endpoint.tsend_until.Goals as goal

pub returns-clause-ok : goal.returns-clause-ok
returns-clause-ok g c =
    send_ok g.E.Sees.fixed c.args.moment.nanos (message TagMsg (Some c.args.ctx) c.args.dest c.args.tag c.args.buf c.args.imm c.args.flags.level c.args.flags.completion c.args.flags.fence) c.args.dest c.args.buf (timed (g.C.Clock.told c.args.clock.now) (g.E.Sees.seen c.args.self.now)) (timed (g.C.Clock.told c.send_on_until.new.clock) (g.E.Sees.seen c.send_on_until.new.self)) c.send_on_until.result c.send_on_until.ensures

pub returns-clause-kept : goal.returns-clause-kept
returns-clause-kept g c =
    send_kept g.E.Sees.fixed c.args.moment.nanos (message TagMsg (Some c.args.ctx) c.args.dest c.args.tag c.args.buf c.args.imm c.args.flags.level c.args.flags.completion c.args.flags.fence) c.args.dest c.args.buf (timed (g.C.Clock.told c.args.clock.now) (g.E.Sees.seen c.args.self.now)) (timed (g.C.Clock.told c.send_on_until.new.clock) (g.E.Sees.seen c.send_on_until.new.self)) c.send_on_until.result c.send_on_until.ensures

pub returns-clause-err : goal.returns-clause-err
returns-clause-err g c =
    send_err g.E.Sees.fixed c.args.moment.nanos (message TagMsg (Some c.args.ctx) c.args.dest c.args.tag c.args.buf c.args.imm c.args.flags.level c.args.flags.completion c.args.flags.fence) c.args.dest c.args.buf (timed (g.C.Clock.told c.args.clock.now) (g.E.Sees.seen c.args.self.now)) (timed (g.C.Clock.told c.send_on_until.new.clock) (g.E.Sees.seen c.send_on_until.new.self)) c.send_on_until.result c.send_on_until.ensures

pub returns-clause-never : goal.returns-clause-never
returns-clause-never g c =
    send_never g.E.Sees.fixed c.args.moment.nanos (message TagMsg (Some c.args.ctx) c.args.dest c.args.tag c.args.buf c.args.imm c.args.flags.level c.args.flags.completion c.args.flags.fence) c.args.dest c.args.buf (timed (g.C.Clock.told c.args.clock.now) (g.E.Sees.seen c.args.self.now)) (timed (g.C.Clock.told c.send_on_until.new.clock) (g.E.Sees.seen c.send_on_until.new.self)) c.send_on_until.result c.send_on_until.ensures

pub returns-clause-clock_failed : goal.returns-clause-clock_failed
returns-clause-clock_failed g c =
    send_failed g.E.Sees.fixed c.args.moment.nanos (message TagMsg (Some c.args.ctx) c.args.dest c.args.tag c.args.buf c.args.imm c.args.flags.level c.args.flags.completion c.args.flags.fence) c.args.dest c.args.buf (timed (g.C.Clock.told c.args.clock.now) (g.E.Sees.seen c.args.self.now)) (timed (g.C.Clock.told c.send_on_until.new.clock) (g.E.Sees.seen c.send_on_until.new.self)) c.send_on_until.result c.send_on_until.ensures

pub returns-clause-until : goal.returns-clause-until
returns-clause-until g c =
    send_until g.E.Sees.fixed c.args.moment.nanos (message TagMsg (Some c.args.ctx) c.args.dest c.args.tag c.args.buf c.args.imm c.args.flags.level c.args.flags.completion c.args.flags.fence) c.args.dest c.args.buf (timed (g.C.Clock.told c.args.clock.now) (g.E.Sees.seen c.args.self.now)) (timed (g.C.Clock.told c.send_on_until.new.clock) (g.E.Sees.seen c.send_on_until.new.self)) c.send_on_until.result c.send_on_until.ensures

pub returns-clause-gives_up : goal.returns-clause-gives_up
returns-clause-gives_up g c =
    send_gives_up g.E.Sees.fixed c.args.moment.nanos (message TagMsg (Some c.args.ctx) c.args.dest c.args.tag c.args.buf c.args.imm c.args.flags.level c.args.flags.completion c.args.flags.fence) c.args.dest c.args.buf (timed (g.C.Clock.told c.args.clock.now) (g.E.Sees.seen c.args.self.now)) (timed (g.C.Clock.told c.send_on_until.new.clock) (g.E.Sees.seen c.send_on_until.new.self)) c.send_on_until.result c.send_on_until.ensures
