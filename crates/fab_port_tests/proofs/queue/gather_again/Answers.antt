use Rattle.std.proofs.Common.{List, sym, subst}
use Rattle.fab_queue.specs.Ports.{Queued}
use Rattle.fab_queue.specs.Gather.{AreAll, Gathered}
use Rattle.fab_port_tests.proofs.queue.gather_again.Goals as goal

pub gather-requires-2 : goal.gather-requires-2
gather-requires-2 g c = subst AreAll (sym c.in-Err.ensures.refused) c.requires

pub returns-in-Ok-gather : goal.returns-in-Ok-gather
returns-in-Ok-gather g c = subst (λ (z : List Queued). Gathered z c.in-Ok-gather.again.items) c.in-Err.ensures.refused c.in-Ok-gather.ensures.gathered
