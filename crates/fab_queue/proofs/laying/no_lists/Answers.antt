use Rattle.fab_queue.proofs.Members.{none_more}
use Rattle.fab_queue.proofs.laying.no_lists.Goals as goal

pub loop-list-preserved : goal.loop-list-preserved
loop-list-preserved g c = rw c.in_ok-push.ensures.items (none_more c.loop-list.lists.items c.new.result c.loop-list._list c.loop-list.invariant c.new.ensures.items)
