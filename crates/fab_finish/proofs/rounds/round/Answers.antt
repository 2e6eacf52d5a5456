use Rattle.std.proofs.Common.{◌∙◌, Ok, ap, arith, refl}
use Rattle.fab_base.proofs.Options.{on_err}
use Rattle.fab_finish.specs.Wanting.{Leaves}
use Rattle.fab_finish.proofs.Freight.{lowers_after, lowers_both, lowers_none}
use Rattle.fab_finish.proofs.Resting.{still_next, goes_carried, still_carried}
use Rattle.fab_finish.proofs.Wanting.{goes_ends, grows_same, grows_then, leaves_after, leaves_same}
use Rattle.fab_finish.proofs.rounds.round.Goals as goal

pub loop-number-init : goal.loop-number-init
loop-number-init g c = record { joined = c.requires.joined; on = λ first reached. reached; count = refl; lowers = lowers_none c.args.peers.now; grows = grows_same c.args.peers.now c.args.peers.now refl; still = λ none k below. absurd (omega (arith, below)) }

pub loop-number-preserved : goal.loop-number-preserved
loop-number-preserved g c =
    let here = c.in_ok-went.ensures in
    let before = c.loop-number.invariant in
    record {
      grows = grows_then c.args.peers.now c.loop-number.peers c.turn.new.peers before.grows c.turn.ensures.grows;
      joined = here.joined;
      on = λ first reached. here.on first (before.on first reached);
      count = c.turn.auto.peers ∙ before.count;
      still = λ none k below. (
          let both = c.either-moved.ensures.no none in
          still_next c.loop-number.peers c.turn.new.peers c.loop-number.number k here.others (before.still both.0 k) (here.still both.1) below);
      lowers = lowers_both c.either-stepped.result c.either-moved.result c.loop-number.stepped c.in_ok-went.went.stepped c.loop-number.moved c.in_ok-went.went.moved c.args.peers.now c.loop-number.peers c.turn.new.peers c.either-stepped.ensures.is c.either-moved.ensures.is before.lowers here.lowers;
    }

pub returns-clause-on : goal.returns-clause-on
returns-clause-on g c first reached =
    goes_carried c.loop-number.peers c.carry.new.peers c.in_ok-carried.ensures.actors c.in_ok-carried.ensures.schedules first (c.loop-number.invariant.on first reached)

pub returns-clause-still : goal.returns-clause-still
returns-clause-still g c none =
    let both = c.either-any.ensures.no none in
    still_carried c.loop-number.peers c.carry.new.peers c.loop-number.number
    (let n = c.loop-number.invariant.count in let past = c.loop-number-test.false in omega (arith, n, past)) (c.loop-number.invariant.still both.0) (c.in_ok-carried.ensures.same (ap Ok both.1)) c.in_ok-carried.ensures.none

pub returns-clause-lowers : goal.returns-clause-lowers
returns-clause-lowers g c = lowers_after c.either-any.result c.loop-number.stepped c.loop-number.moved c.in_ok-carried.carried c.args.peers.now c.loop-number.peers c.carry.new.peers c.either-any.ensures.is c.loop-number.invariant.lowers c.in_ok-carried.ensures.actors c.in_ok-carried.ensures.less

pub returns-in_err-went-clause-grows : goal.returns-in_err-went-clause-grows
returns-in_err-went-clause-grows g c = grows_then c.args.peers.now c.loop-number.peers c.turn.new.peers c.loop-number.invariant.grows c.turn.ensures.grows

pub returns-in_err-went-clause-leaves : goal.returns-in_err-went-clause-leaves
returns-in_err-went-clause-leaves g c =
    on_err c.from_residual.result (Leaves c.args.peers.now c.turn.new.peers)
    (leaves_after c.args.peers.now c.loop-number.peers c.turn.new.peers (goes_ends c.args.peers.now c.loop-number.peers c.loop-number.invariant.on) c.in_err-went.ensures.leaves)

pub returns-in_err-carried-clause-grows : goal.returns-in_err-carried-clause-grows
returns-in_err-carried-clause-grows g c =
    grows_then c.args.peers.now c.loop-number.peers c.carry.new.peers c.loop-number.invariant.grows (grows_same c.loop-number.peers c.carry.new.peers c.carry.ensures.schedules)

pub returns-in_err-carried-clause-leaves : goal.returns-in_err-carried-clause-leaves
returns-in_err-carried-clause-leaves g c =
    on_err c.from_residual-in_err-carried.result (Leaves c.args.peers.now c.carry.new.peers)
    (leaves_after c.args.peers.now c.loop-number.peers c.carry.new.peers (goes_ends c.args.peers.now c.loop-number.peers c.loop-number.invariant.on) (leaves_same c.loop-number.peers c.carry.new.peers c.carry.ensures.schedules))

pub returns-clause-grows : goal.returns-clause-grows
returns-clause-grows g c =
    grows_then c.args.peers.now c.loop-number.peers c.carry.new.peers c.loop-number.invariant.grows (grows_same c.loop-number.peers c.carry.new.peers c.carry.ensures.schedules)
