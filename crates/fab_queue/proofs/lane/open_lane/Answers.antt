use Rattle.std.proofs.Common.{rules}
use Rattle.fab_queue.proofs.Lanes.{begins, forks}
use Rattle.fab_queue.proofs.lane.open_lane.Goals as goal

pub ruled-requires-clause-rule : goal.ruled-requires-clause-rule
ruled-requires-clause-rule c = begins

pub another-reader-requires-clause-rule : goal.another-reader-requires-clause-rule
another-reader-requires-clause-rule c = forks _ _ (search rules) (search rules)
