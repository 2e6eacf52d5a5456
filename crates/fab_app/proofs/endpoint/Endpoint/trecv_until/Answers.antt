use Rattle.std.proofs.Common.{true, None}
use Rattle.fab_face.specs.Answers.{receive_call}
use Rattle.fab_app.specs.Until.{timed}
use Rattle.fab_app.proofs.TimedTries.{ask_err, ask_failed, ask_gives_up, ask_kept, ask_never, ask_ok, ask_until}
use Rattle.fab_app.proofs.endpoint.Endpoint.trecv_until.Goals as goal

pub returns-clause-ok : goal.returns-clause-ok
returns-clause-ok g c =
    ask_ok g.E.Sees.fixed c.args.moment.nanos (receive_call true c.args.source c.args.tag c.args.ignore c.args.buf None c.args.ctx) c.args.buf (timed (g.C.Clock.told c.args.clock.now) (g.E.Sees.seen c.args.self.now)) (timed (g.C.Clock.told c.ask_until.new.clock) (g.E.Sees.seen c.ask_until.new.self)) c.ask_until.result c.ask_until.ensures

pub returns-clause-kept : goal.returns-clause-kept
returns-clause-kept g c =
    ask_kept g.E.Sees.fixed c.args.moment.nanos (receive_call true c.args.source c.args.tag c.args.ignore c.args.buf None c.args.ctx) c.args.buf (timed (g.C.Clock.told c.args.clock.now) (g.E.Sees.seen c.args.self.now)) (timed (g.C.Clock.told c.ask_until.new.clock) (g.E.Sees.seen c.ask_until.new.self)) c.ask_until.result c.ask_until.ensures

pub returns-clause-err : goal.returns-clause-err
returns-clause-err g c =
    ask_err g.E.Sees.fixed c.args.moment.nanos (receive_call true c.args.source c.args.tag c.args.ignore c.args.buf None c.args.ctx) c.args.buf (timed (g.C.Clock.told c.args.clock.now) (g.E.Sees.seen c.args.self.now)) (timed (g.C.Clock.told c.ask_until.new.clock) (g.E.Sees.seen c.ask_until.new.self)) c.ask_until.result c.ask_until.ensures

pub returns-clause-never : goal.returns-clause-never
returns-clause-never g c =
    ask_never g.E.Sees.fixed c.args.moment.nanos (receive_call true c.args.source c.args.tag c.args.ignore c.args.buf None c.args.ctx) c.args.buf (timed (g.C.Clock.told c.args.clock.now) (g.E.Sees.seen c.args.self.now)) (timed (g.C.Clock.told c.ask_until.new.clock) (g.E.Sees.seen c.ask_until.new.self)) c.ask_until.result c.ask_until.ensures

pub returns-clause-clock_failed : goal.returns-clause-clock_failed
returns-clause-clock_failed g c =
    ask_failed g.E.Sees.fixed c.args.moment.nanos (receive_call true c.args.source c.args.tag c.args.ignore c.args.buf None c.args.ctx) c.args.buf (timed (g.C.Clock.told c.args.clock.now) (g.E.Sees.seen c.args.self.now)) (timed (g.C.Clock.told c.ask_until.new.clock) (g.E.Sees.seen c.ask_until.new.self)) c.ask_until.result c.ask_until.ensures

pub returns-clause-until : goal.returns-clause-until
returns-clause-until g c =
    ask_until g.E.Sees.fixed c.args.moment.nanos (receive_call true c.args.source c.args.tag c.args.ignore c.args.buf None c.args.ctx) c.args.buf (timed (g.C.Clock.told c.args.clock.now) (g.E.Sees.seen c.args.self.now)) (timed (g.C.Clock.told c.ask_until.new.clock) (g.E.Sees.seen c.ask_until.new.self)) c.ask_until.result c.ask_until.ensures

pub returns-clause-gives_up : goal.returns-clause-gives_up
returns-clause-gives_up g c =
    ask_gives_up g.E.Sees.fixed c.args.moment.nanos (receive_call true c.args.source c.args.tag c.args.ignore c.args.buf None c.args.ctx) c.args.buf (timed (g.C.Clock.told c.args.clock.now) (g.E.Sees.seen c.args.self.now)) (timed (g.C.Clock.told c.ask_until.new.clock) (g.E.Sees.seen c.ask_until.new.self)) c.ask_until.result c.ask_until.ensures
