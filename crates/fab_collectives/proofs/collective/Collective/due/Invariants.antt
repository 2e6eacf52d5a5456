use Rattle.std.proofs.Common.{◌≤◌, ◌<◌, ℕ}
use Rattle.fab_collectives.specs.Driving.{IsReady}
use Rattle.fab_collectives.proofs.collective.Collective.due.Given as goal

abbrev pub invariant-loop-k : goal.invariant-loop-k
invariant-loop-k l = (k : ℕ) → l.fn.self.sent ≤ k → k < l.k → IsReady l.fn.self k
