use Rattle.std.proofs.Common.{◌≡◌, ◌++◌, ◌∷◌, [], rules}
use Rattle.fab_queue.specs.Gather.{taken_end_of}
use Rattle.fab_queue.proofs.Rooming.{image_more}
use Rattle.fab_queue.proofs.rooms.taken_ends.Goals as goal

pub loop-inlet-preserved : goal.loop-inlet-preserved
loop-inlet-preserved c = let grown : c.push.new.self.items ≡ c.loop-inlet.ends.items ++ c.last_taken.result ∷ [] = search rules in
    rw grown (image_more taken_end_of c.args.ins.now c.loop-inlet.ends.items c.loop-inlet.inlet-index c.inlet-item.result c.last_taken.result c.loop-inlet.invariant c.loop-inlet-test.true c.inlet-item.is c.last_taken.ensures)
