use Rattle.std.proofs.Common.{◌∙◌}
use Rattle.mini_mpi.proofs.Going.{goes_then}
use Rattle.mini_mpi.proofs.world.World.settle.Goals as goal

pub loop-preserved : goal.loop-preserved
loop-preserved g c = record { goes = goes_then g.E.Sees.fixed _ _ _ c.loop.invariant.goes c.progress.ensures.goes; ranks = c.progress.ensures.ranks ∙ c.loop.invariant.ranks }

pub returns-in_err-progress-clause-goes : goal.returns-in_err-progress-clause-goes
returns-in_err-progress-clause-goes g c = goes_then g.E.Sees.fixed _ _ _ c.loop.invariant.goes c.progress.ensures.goes
