use Rattle.mini_mpi.proofs.Going.{all_after}
use Rattle.mini_mpi.proofs.world.World.iprobe.Goals as goal

pub returns-clause-tried : goal.returns-clause-tried
returns-clause-tried g c = all_after g.E.Sees.fixed _ _ _ c.progress.ensures.goes c.in_ok-post_receives.ensures.all
