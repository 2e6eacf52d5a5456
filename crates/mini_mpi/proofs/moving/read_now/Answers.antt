use Rattle.mini_mpi.proofs.Going.{none_kept}
use Rattle.mini_mpi.proofs.moving.read_now.Goals as goal

pub returns-clause-none : goal.returns-clause-none
returns-clause-none g c = none_kept g.E.Sees.fixed c.in_ok-polled.polled _ _ c.come.result c.in_ok-polled.ensures.ok c.come.ensures.none
