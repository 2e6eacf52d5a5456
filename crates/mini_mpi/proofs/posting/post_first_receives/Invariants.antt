use Rattle.mini_mpi.specs.Going.{Goes, rank_of}
use Rattle.mini_mpi.proofs.posting.post_first_receives.Given as goal

abbrev pub invariant-receives : goal.invariant-receives
invariant-receives g l = Goes g.E.Sees.fixed (rank_of (g.E.Sees.seen l.fn.endpoint) l.fn.begun) (rank_of (g.E.Sees.seen l.endpoint) l.begun)
