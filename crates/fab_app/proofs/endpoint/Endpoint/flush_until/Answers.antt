use Rattle.std.proofs.Common.{Err, Ok}
use Rattle.fab_app.specs.Until.{timed}
use Rattle.fab_app.specs.Within.{MovesOnce}
use Rattle.fab_app.proofs.Chains.{none, then_more}
use Rattle.fab_app.proofs.Timing.{early_by, early_on, lacks_by, moved_by, moves_done, moves_late, no_turns}
use Rattle.fab_app.proofs.endpoint.Endpoint.flush_until.Goals as goal

pub turns-init : goal.turns-init
turns-init g c = record { before = none _; turns = no_turns (MovesOnce g.E.Sees.fixed 64) c.args.moment.nanos (timed (g.C.Clock.told c.args.clock.now) (g.E.Sees.seen c.args.self.now)) }

pub turns-preserved : goal.turns-preserved
turns-preserved g c =
    let seen = g.E.Sees.seen in
    let told = g.C.Clock.told in
    let moment = c.args.moment.nanos in
    record {
      before = then_more (seen c.args.self.now) (seen c.turns.self) (seen c.move_by.new.self) c.turns.invariant.before (moved_by g.E.Sees.fixed 64 moment (timed (told c.turns.clock) (seen c.turns.self)) (timed (told c.move_by.new.clock) (seen c.move_by.new.self)) (Ok c.in_ok-late.late) c.in_ok-late.ensures);
      turns = early_on (MovesOnce g.E.Sees.fixed 64) moment (timed (told c.args.clock.now) (seen c.args.self.now)) (timed (told c.turns.clock) (seen c.turns.self)) (timed (told c.move_by.new.clock) (seen c.move_by.new.self)) c.turns.invariant.turns
          (early_by g.E.Sees.fixed 64 moment (timed (told c.turns.clock) (seen c.turns.self)) (timed (told c.move_by.new.clock) (seen c.move_by.new.self)) c.in_ok-late.late c.in_ok-late.ensures c.if-late.false);
    }

pub returns-then-is_flushed-clause-until : goal.returns-then-is_flushed-clause-until
returns-then-is_flushed-clause-until g c =
    moves_done g.E.Sees.fixed 64 c.args.moment.nanos (g.C.Clock.told c.args.clock.now) (g.C.Clock.told c.turns.clock) (g.E.Sees.seen c.args.self.now) (g.E.Sees.seen c.turns.self) c.turns.invariant.turns

pub returns-in_err-late-clause-moved : goal.returns-in_err-late-clause-moved
returns-in_err-late-clause-moved g c =
    let seen = g.E.Sees.seen in
    let told = g.C.Clock.told in
    then_more (seen c.args.self.now) (seen c.turns.self) (seen c.move_by.new.self) c.turns.invariant.before
    (moved_by g.E.Sees.fixed 64 c.args.moment.nanos (timed (told c.turns.clock) (seen c.turns.self)) (timed (told c.move_by.new.clock) (seen c.move_by.new.self)) (Err c.in_err-late.field-0.0) c.in_err-late.ensures)

pub returns-in_err-late-clause-lacks : goal.returns-in_err-late-clause-lacks
returns-in_err-late-clause-lacks g c =
    let seen = g.E.Sees.seen in
    let told = g.C.Clock.told in
    lacks_by g.E.Sees.fixed 64 c.args.moment.nanos (timed (told c.turns.clock) (seen c.turns.self)) (timed (told c.move_by.new.clock) (seen c.move_by.new.self)) c.in_err-late.field-0.0 c.from_residual.result c.in_err-late.ensures
    c.from_residual.ensures.1

pub returns-then-late-clause-moved : goal.returns-then-late-clause-moved
returns-then-late-clause-moved g c =
    let seen = g.E.Sees.seen in
    let told = g.C.Clock.told in
    then_more (seen c.args.self.now) (seen c.turns.self) (seen c.move_by.new.self) c.turns.invariant.before
    (moved_by g.E.Sees.fixed 64 c.args.moment.nanos (timed (told c.turns.clock) (seen c.turns.self)) (timed (told c.move_by.new.clock) (seen c.move_by.new.self)) (Ok c.in_ok-late.late) c.in_ok-late.ensures)

pub returns-then-late-clause-until : goal.returns-then-late-clause-until
returns-then-late-clause-until g c =
    let seen = g.E.Sees.seen in
    let told = g.C.Clock.told in
    moves_late g.E.Sees.fixed 64 c.args.moment.nanos (told c.args.clock.now) (told c.turns.clock) (told c.move_by.new.clock) (seen c.args.self.now) (seen c.turns.self) (seen c.move_by.new.self) c.in_ok-late.late c.is_flushed-then-late.result
    c.turns.invariant.turns c.in_ok-late.ensures c.if-late.true
