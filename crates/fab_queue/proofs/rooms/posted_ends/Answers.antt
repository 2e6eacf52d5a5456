use Rattle.std.proofs.Common.{◌≡◌, ◌++◌, ◌∷◌, [], rules}
use Rattle.fab_queue.specs.Gather.{posted_end}
use Rattle.fab_queue.proofs.Rooming.{image_more}
use Rattle.fab_queue.proofs.rooms.posted_ends.Goals as goal

pub loop-outlet-preserved : goal.loop-outlet-preserved
loop-outlet-preserved c = let grown : c.push.new.self.items ≡ c.loop-outlet.ends.items ++ c.last_posted.result ∷ [] = search rules in
    rw grown (image_more posted_end c.args.outs.now c.loop-outlet.ends.items c.loop-outlet.outlet-index c.outlet-item.result c.last_posted.result c.loop-outlet.invariant c.loop-outlet-test.true c.outlet-item.is c.last_posted.ensures.end)
