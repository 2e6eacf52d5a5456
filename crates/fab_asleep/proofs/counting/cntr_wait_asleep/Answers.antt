use Rattle.std.proofs.Common.{false, Ok, refl}
use Rattle.fab_app.specs.Until.{timed}
use Rattle.fab_app.specs.Within.{MovesOnce}
use Rattle.fab_app.proofs.Chains.{none, then_more}
use Rattle.fab_app.proofs.Timing.{early_by, early_on, moved_by, moves_done, no_turns}
use Rattle.fab_asleep.proofs.Looks.{ends_lacks, ends_moved, ends_until}
use Rattle.fab_asleep.proofs.counting.cntr_wait_asleep.Goals as goal

pub turns-init : goal.turns-init
turns-init g c = record { before = none _; turns = no_turns (MovesOnce g.E.Sees.fixed 64) c.args.moment.nanos (timed (g.C.Clock.told c.args.clock.now) (g.E.Sees.seen c.args.endpoint.now)); awake = λ was. was }

pub returns-then-cntr_reached-clause-moved : goal.returns-then-cntr_reached-clause-moved
returns-then-cntr_reached-clause-moved g c = c.turns.invariant.before

pub returns-then-cntr_reached-clause-until : goal.returns-then-cntr_reached-clause-until
returns-then-cntr_reached-clause-until g c =
    moves_done g.E.Sees.fixed 64 c.args.moment.nanos (g.C.Clock.told c.args.clock.now) (g.C.Clock.told c.turns.clock) (g.E.Sees.seen c.args.endpoint.now) (g.E.Sees.seen c.turns.endpoint) c.turns.invariant.turns

pub returns-then-cntr_reached-clause-awake : goal.returns-then-cntr_reached-clause-awake
returns-then-cntr_reached-clause-awake g c = c.turns.invariant.awake

pub returns-in-Err-clause-moved : goal.returns-in-Err-clause-moved
returns-in-Err-clause-moved g c =
    let seen = g.E.Sees.seen in
    let told = g.C.Clock.told in
    then_more (seen c.args.endpoint.now) (seen c.turns.endpoint) (seen c.turned.new.endpoint) c.turns.invariant.before
    (ends_moved g.E.Sees.fixed 64 c.args.moment.nanos (timed (told c.turns.clock) (seen c.turns.endpoint)) (timed (told c.turned.new.clock) (seen c.turned.new.endpoint)) c.in-Err.told c.in-Err.ensures.told)

pub returns-in-Err-clause-lacks : goal.returns-in-Err-clause-lacks
returns-in-Err-clause-lacks g c =
    let seen = g.E.Sees.seen in
    let told = g.C.Clock.told in
    ends_lacks g.E.Sees.fixed 64 c.args.moment.nanos (timed (told c.turns.clock) (seen c.turns.endpoint)) (timed (told c.turned.new.clock) (seen c.turned.new.endpoint)) c.in-Err.told c.in-Err.ensures.told

pub returns-in-Err-clause-until : goal.returns-in-Err-clause-until
returns-in-Err-clause-until g c =
    let seen = g.E.Sees.seen in
    let told = g.C.Clock.told in
    ends_until g.E.Sees.fixed 64 c.args.moment.nanos (told c.args.clock.now) (told c.turns.clock) (told c.turned.new.clock) (seen c.args.endpoint.now) (seen c.turns.endpoint) (seen c.turned.new.endpoint) c.in-Err.told c.turns.invariant.turns c.in-Err.ensures.told

pub returns-in-Err-clause-awake : goal.returns-in-Err-clause-awake
returns-in-Err-clause-awake g c = λ was. c.turned.ensures.awake (c.turns.invariant.awake was)

pub turns-preserved : goal.turns-preserved
turns-preserved g c =
    let seen = g.E.Sees.seen in
    let told = g.C.Clock.told in
    let moment = c.args.moment.nanos in
    record {
      before = then_more (seen c.args.endpoint.now) (seen c.turns.endpoint) (seen c.turned.new.endpoint) c.turns.invariant.before
          (moved_by g.E.Sees.fixed 64 moment (timed (told c.turns.clock) (seen c.turns.endpoint)) (timed (told c.turned.new.clock) (seen c.turned.new.endpoint)) (Ok false) c.in_default.ensures.nothing);
      turns = early_on (MovesOnce g.E.Sees.fixed 64) moment (timed (told c.args.clock.now) (seen c.args.endpoint.now)) (timed (told c.turns.clock) (seen c.turns.endpoint)) (timed (told c.turned.new.clock) (seen c.turned.new.endpoint)) c.turns.invariant.turns
          (early_by g.E.Sees.fixed 64 moment (timed (told c.turns.clock) (seen c.turns.endpoint)) (timed (told c.turned.new.clock) (seen c.turned.new.endpoint)) false c.in_default.ensures.nothing refl);
      awake = λ was. c.turned.ensures.awake (c.turns.invariant.awake was);
    }
