use Rattle.std.proofs.Common.{◌≡◌, map, take}
use Rattle.fab_queue.specs.Gather.{posted_end}
use Rattle.fab_queue.proofs.rooms.posted_ends.Given as goal

abbrev pub invariant-loop-outlet : goal.invariant-loop-outlet
invariant-loop-outlet l = l.ends.items ≡ map posted_end (take l.outlet-index l.outs)
