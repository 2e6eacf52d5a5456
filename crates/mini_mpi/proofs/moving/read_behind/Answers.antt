use Rattle.mini_mpi.proofs.Going.{comes_after, fails_after, lacks_behind}
use Rattle.mini_mpi.proofs.moving.read_behind.Goals as goal

pub returns-clause-ok : goal.returns-clause-ok
returns-clause-ok g c = comes_after g.E.Sees.fixed c.read.result _ _ _ c.post_receives.ensures.goes c.read.ensures.ok

pub returns-clause-err : goal.returns-clause-err
returns-clause-err g c = fails_after g.E.Sees.fixed c.read.result _ _ _ c.post_receives.ensures.goes c.read.ensures.err

pub returns-clause-lacks : goal.returns-clause-lacks
returns-clause-lacks g c = lacks_behind g.E.Sees.fixed c.read.result _ _ _ c.read.new.begun c.post_receives.ensures.goes c.read.ensures.lacks
