use Rattle.std.proofs.Common.{◌≡◌, [], arith, ap, ◌∙◌, map, get_or}
use Rattle.std.proofs.lemmas.List.{get_or_read}
use Rattle.fab_replay.specs.Seen.{actors_of, steps_of, left_of}
use Rattle.fab_replay.proofs.Starting.{actors_more, steps_more, left_more, all_started}
use Rattle.fab_replay.proofs.opening.open.Goals as goal

pub loop-number-preserved : goal.loop-number-preserved
loop-number-preserved c =
    let bound = c.args.bound.now in
    let schedule = c.args.schedule.now in
    let n = c.loop-number.number in
    let peers = c.loop-number.peers.items in
    let peer = c.in_ok-peer.peer in
    let pushed = c.in_ok-push.ensures.items in
    let is : peer.steps ≡ get_or schedule n [] = c.in_ok-peer.ensures.steps ∙ get_or_read schedule n _ (omega (arith, c.loop-number-test.true, c.requires)) c.index-schedule-number.is [] in
    record {
      actors = ap (actors_of bound) pushed ∙ actors_more bound peers n peer c.loop-number.invariant.actors c.in_ok-peer.ensures.actor;
      steps = ap steps_of pushed ∙ steps_more peers schedule n peer (omega (arith, c.loop-number-test.true, c.requires)) c.loop-number.invariant.steps is;
      left = ap (map left_of) pushed ∙ left_more peers schedule n peer (omega (arith, c.loop-number-test.true, c.requires)) c.loop-number.invariant.left is c.in_ok-peer.ensures.taken;
    }

pub returns-clause-start : goal.returns-clause-start
returns-clause-start c =
    all_started c.args.bound.now c.loop-number.peers.items c.args.schedule.now c.loop-number.number (omega (arith, c.loop-number-test.false, c.loop-number.auto.number-end)) (omega (arith, c.loop-number-test.false, c.requires))
    c.loop-number.invariant.actors c.loop-number.invariant.left
