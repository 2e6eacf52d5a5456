use Rattle.std.proofs.Common.{rules}
use Rattle.fab_replay.proofs.Calm.{calm_is, not_calm}
use Rattle.fab_replay.proofs.ready.is_calm.Goals as goal

pub returns-then-all_quiet : goal.returns-then-all_quiet
returns-then-all_quiet c = calm_is c.args.bound.now c.args.peers.now c.all_quiet.result c.all_arrived.result c.all_quiet.ensures (c.all_arrived.ensures c.args.bound.now) (search rules)

pub returns-else-all_quiet : goal.returns-else-all_quiet
returns-else-all_quiet c = not_calm c.args.bound.now c.args.peers.now c.all_quiet.result c.all_quiet.ensures (search rules)
