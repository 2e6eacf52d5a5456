use Rattle.std.proofs.Common.{◌≡◌, map, take}
use Rattle.fab_queue.specs.Gather.{taken_end_of}
use Rattle.fab_queue.proofs.rooms.taken_ends.Given as goal

abbrev pub invariant-loop-inlet : goal.invariant-loop-inlet
invariant-loop-inlet l = l.ends.items ≡ map taken_end_of (take l.inlet-index l.ins)
