use Rattle.fab_app.specs.Until.{timed}
use Rattle.fab_app.specs.Within.{Misses, Times}
use Rattle.fab_app.proofs.Chains.{none, then_more}
use Rattle.fab_app.proofs.Timing.{early_on, no_turns}
use Rattle.fab_asleep.proofs.Looks.{after_looks}
use Rattle.fab_asleep.proofs.waiting.turn_until.Goals as goal

pub turns-init : goal.turns-init
turns-init g c = record { before = none _; turns = no_turns (Times (Misses g.E.Sees.fixed 64) 1) c.args.moment.nanos (timed (g.C.Clock.told c.args.clock.now) (g.E.Sees.seen c.args.endpoint.now)); awake = λ was. was }

pub returns-in-Err-clause-told : goal.returns-in-Err-clause-told
returns-in-Err-clause-told g c =
    let seen = g.E.Sees.seen in
    let told = g.C.Clock.told in
    after_looks g.E.Sees.fixed 64 c.args.moment.nanos (told c.args.clock.now) (told c.turns.clock) (told c.turned.new.clock) (seen c.args.endpoint.now) (seen c.turns.endpoint) (seen c.turned.new.endpoint) c.in-Err.told c.turns.invariant.before
    c.turns.invariant.turns c.in-Err.ensures.told

pub returns-in-Err-clause-awake : goal.returns-in-Err-clause-awake
returns-in-Err-clause-awake g c = λ was. c.turned.ensures.awake (c.turns.invariant.awake was)

pub turns-preserved : goal.turns-preserved
turns-preserved g c =
    let seen = g.E.Sees.seen in
    let told = g.C.Clock.told in
    record {
      before = then_more (seen c.args.endpoint.now) (seen c.turns.endpoint) (seen c.turned.new.endpoint) c.turns.invariant.before c.in_default.ensures.moved;
      turns = early_on (Times (Misses g.E.Sees.fixed 64) 1) c.args.moment.nanos (timed (told c.args.clock.now) (seen c.args.endpoint.now)) (timed (told c.turns.clock) (seen c.turns.endpoint)) (timed (told c.turned.new.clock) (seen c.turned.new.endpoint))
          c.turns.invariant.turns c.in_default.ensures.nothing;
      awake = λ was. c.turned.ensures.awake (c.turns.invariant.awake was);
    }
