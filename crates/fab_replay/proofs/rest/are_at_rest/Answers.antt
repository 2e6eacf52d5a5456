use Rattle.std.proofs.Common.{rules}
use Rattle.fab_replay.specs.Seen.{actors_of}
use Rattle.fab_replay.proofs.Resting.{rests_ok, rests_not}
use Rattle.fab_replay.proofs.rest.are_at_rest.Goals as goal

pub returns-then-not-all_still : goal.returns-then-not-all_still
returns-then-not-all_still c = rests_not (actors_of c.args.bound.now c.args.peers.now) c.all_still.result (c.all_still.ensures c.args.bound.now) (search rules)

pub returns : goal.returns
returns c = rests_ok c.none_can.result (actors_of c.args.bound.now c.args.peers.now) c.all_still.result (c.all_still.ensures c.args.bound.now) (search rules) c.none_can.ensures
