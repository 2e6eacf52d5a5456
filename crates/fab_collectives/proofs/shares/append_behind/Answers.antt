use Rattle.std.proofs.Common.{◌+◌, ◌-◌, arith}
use Rattle.fab_collectives.specs.Routes.{share_of}
use Rattle.fab_collectives.proofs.Joining.{none_yet}
use Rattle.fab_collectives.proofs.shares.append_behind.Goals as goal

pub returns : goal.returns
returns c = let over = c.if-work.false in
    none_yet (λ s. share_of c.args.work c.args.len c.args.joined.now s) c.args.all.now.items (c.args.work.rank + 1) (c.args.work.peers - (c.args.work.rank + 1)) (omega arith)
