use Rattle.std.proofs.Common.{◌-◌, length}
use Rattle.std.specs.Prelude.{vec_capacity}
use Rattle.crossbeam_queue.specs.Passes.{IsSamePass}
use Rattle.fab_queue.specs.Lanes.{known}
use Rattle.fab_queue.proofs.Draining.{Emptying}
use Rattle.fab_queue.proofs.emptying.empty_lane.Given as goal

abbrev pub invariant-loop-sent : goal.invariant-loop-sent
invariant-loop-sent g l = IsSamePass l.fn.pass l.pass × Emptying (known l.fn.pass) l.fn.frames.items (known l.pass) l.frames.items (vec_capacity l.frames)

abbrev pub decreases-loop-sent : goal.decreases-loop-sent
decreases-loop-sent g l = length (known l.pass).put - length (known l.pass).got
