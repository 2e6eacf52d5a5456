use Rattle.mini_mpi.proofs.Going.{goes_then}
use Rattle.mini_mpi.proofs.posting.post_first_receives.Goals as goal

pub returns-in_err-post_receive-clause-goes : goal.returns-in_err-post_receive-clause-goes
returns-in_err-post_receive-clause-goes g c = goes_then g.E.Sees.fixed _ _ _ c.receives.invariant c.post_receive.ensures.goes

pub returns-then-not-branch-clause-goes : goal.returns-then-not-branch-clause-goes
returns-then-not-branch-clause-goes g c = goes_then g.E.Sees.fixed _ _ _ c.receives.invariant c.post_receive.ensures.goes

pub receives-preserved : goal.receives-preserved
receives-preserved g c = goes_then g.E.Sees.fixed _ _ _ c.receives.invariant c.post_receive.ensures.goes
