use Rattle.fab_replay.specs.Seen.{actors_of}
use Rattle.fab_replay.proofs.Gets.{has_all_is}
use Rattle.fab_replay.proofs.ready.has_all.Goals as goal

pub returns : goal.returns
returns c = λ bound. has_all_is (actors_of bound c.args.peers.now) c.args.sender c.args.receiver c.whole_at.result c.accepted_by.result (c.whole_at.ensures bound) (c.accepted_by.ensures bound)
