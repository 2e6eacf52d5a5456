use Rattle.mini_mpi.proofs.Going.{goes_then}
use Rattle.mini_mpi.proofs.posting.post_sends.Goals as goal

pub returns-in_err-post_send-clause-goes : goal.returns-in_err-post_send-clause-goes
returns-in_err-post_send-clause-goes g c = goes_then g.E.Sees.fixed _ _ _ c.sends.invariant c.post_send.ensures.goes

pub returns-then-not-branch-clause-goes : goal.returns-then-not-branch-clause-goes
returns-then-not-branch-clause-goes g c = goes_then g.E.Sees.fixed _ _ _ c.sends.invariant c.post_send.ensures.goes

pub sends-preserved : goal.sends-preserved
sends-preserved g c = goes_then g.E.Sees.fixed _ _ _ c.sends.invariant c.post_send.ensures.goes
