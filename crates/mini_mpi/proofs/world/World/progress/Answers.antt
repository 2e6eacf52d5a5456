use Rattle.std.proofs.Common.{ap, refl}
use Rattle.mini_mpi.proofs.Going.{keeps}
use Rattle.mini_mpi.proofs.world.World.progress.Goals as goal

pub returns-clause-goes : goal.returns-clause-goes
returns-clause-goes g c = keeps g.E.Sees.fixed c.in_ok-polled.polled _ _ _ c.in_ok-polled.ensures.ok refl (ap (λ deque. deque.items) c.keep.ensures.others.0) (ap (λ deque. deque.items) c.keep.ensures.others.1) c.keep.ensures.ended
