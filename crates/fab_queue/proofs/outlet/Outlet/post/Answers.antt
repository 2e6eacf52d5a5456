use Rattle.std.proofs.Common.{◌∙◌, subst, sym}
use Rattle.fab_queue.specs.Lanes.{Continues}
use Rattle.fab_queue.proofs.Lanes.{puts, last_inside}
use Rattle.fab_queue.proofs.Ends.{put_more}
use Rattle.fab_queue.proofs.outlet.Outlet.post.Goals as goal

pub push_as-requires-clause-rule : goal.push_as-requires-clause-rule
push_as-requires-clause-rule g c = let may = c.self.invariant.1.puts in (puts _ _ _ _ may (subst (λ o. Continues o.posted c.args.sent) (sym c.self.view_is) c.requires), last_inside _ _ may)

pub invariant_of-self : goal.invariant_of-self
invariant_of-self g c =
    let same = c.push_as.ensures.queue in
    let rule = c.push_as.ensures.rule in
    ((same.0 ∙ c.self.invariant.0.0, same.2 ∙ c.self.invariant.0.1), put_more _ _ _ c.args.sent c.self.invariant.1 (rw c.in-Ok.is at rule), c.self.invariant.2)
