use Rattle.mini_mpi.proofs.Going.{comes_after, comes_then, fails_after, goes_then, lacks_after, lacks_behind}
use Rattle.mini_mpi.proofs.moving.next.Goals as goal

pub returns-in-Ok-Some-clause-ok : goal.returns-in-Ok-Some-clause-ok
returns-in-Ok-Some-clause-ok g c = comes_then g.E.Sees.fixed _ _ _ _ c.post_sends.ensures.goes (rw c.in-Ok-Some.field-0-is at c.in-Ok-Some.ensures.some)

pub returns-in-Ok-None-clause-ok : goal.returns-in-Ok-None-clause-ok
returns-in-Ok-None-clause-ok g c = comes_after g.E.Sees.fixed c.read_behind.result _ _ _ (goes_then g.E.Sees.fixed _ _ _ c.post_sends.ensures.goes (rw c.in-Ok-None.field-0-is at c.in-Ok-None.ensures.none)) c.read_behind.ensures.ok

pub returns-in-Ok-None-clause-err : goal.returns-in-Ok-None-clause-err
returns-in-Ok-None-clause-err g c = fails_after g.E.Sees.fixed c.read_behind.result _ _ _ (goes_then g.E.Sees.fixed _ _ _ c.post_sends.ensures.goes (rw c.in-Ok-None.field-0-is at c.in-Ok-None.ensures.none)) c.read_behind.ensures.err

pub returns-in-Err-clause-err : goal.returns-in-Err-clause-err
returns-in-Err-clause-err g c = (c.in-Err.ensures.err.0, goes_then g.E.Sees.fixed _ _ _ c.post_sends.ensures.goes c.in-Err.ensures.err.1)

pub returns-in-Ok-None-clause-lacks : goal.returns-in-Ok-None-clause-lacks
returns-in-Ok-None-clause-lacks g c = lacks_behind g.E.Sees.fixed c.read_behind.result _ _ _ c.read_behind.new.begun (goes_then g.E.Sees.fixed _ _ _ c.post_sends.ensures.goes (rw c.in-Ok-None.field-0-is at c.in-Ok-None.ensures.none)) c.read_behind.ensures.lacks

pub returns-in-Err-clause-lacks : goal.returns-in-Err-clause-lacks
returns-in-Err-clause-lacks g c = lacks_after g.E.Sees.fixed _ _ _ c.read_now.new.begun c.post_sends.ensures.goes c.in-Err.ensures.lacks
