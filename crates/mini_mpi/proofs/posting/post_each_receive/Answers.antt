use Rattle.std.proofs.Common.{arith}
use Rattle.mini_mpi.proofs.Turns.{all_had, none_yet, one_more}
use Rattle.mini_mpi.proofs.posting.post_each_receive.Goals as goal

pub receives-init : goal.receives-init
receives-init g c = record { turns = none_yet _; room = (let room = c.requires.room in omega (arith, room)) }

pub post_next-requires : goal.post_next-requires
post_next-requires g c = record {
  room = (let below = c.receives-test.true in let count = c.len-receive-end.ensures in let room = c.receives.invariant.room in omega (arith, below, count, room));
}

pub receives-preserved : goal.receives-preserved
receives-preserved g c =
    let below = c.receives-test.true in
    let count = c.len-receive-end.ensures in
    let long = c.args.begun.now.receives.ok.0 in
    let room = c.receives.invariant.room in
    let one = c.post_next.ensures.rooms.0 in
    let same = c.post_next.ensures.rooms.1 in
    record {
      turns = one_more c.receives._receive _ _ _ c.receives.invariant.turns (omega (arith, below, count, long)) c.post_next.ensures.turn;
      room = omega (arith, room, one, same);
    }

pub returns : goal.returns
returns g c =
    let past = c.receives-test.false in
    let most = c.receives.auto._receive-end in
    let count = c.len-receive-end.ensures in
    let long = c.args.begun.now.receives.ok.0 in
    all_had c.receives._receive _ _ c.receives.invariant.turns (omega (arith, past, most, count, long))
