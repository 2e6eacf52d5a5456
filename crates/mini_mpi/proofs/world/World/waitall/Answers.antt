use Rattle.std.proofs.Common.{◌∙◌}
use Rattle.mini_mpi.proofs.Ending.{all_ended, awaited}
use Rattle.mini_mpi.proofs.world.World.waitall.Goals as goal

pub requests-preserved : goal.requests-preserved
requests-preserved g c = record {
  all = all_ended g.E.Sees.fixed c.requests.yielded c.in-Some.request _ _ _ c.wait-end.result c.requests.all c.joined-all.result c.requests.invariant.all (awaited g.E.Sees.fixed c.in-Some.request.id _ _ c.wait-end.new.self.begun c.wait-end.result c.wait-end.ensures.awaited) c.joined-all.ensures;
  ranks = c.wait-end.ensures.ranks ∙ c.requests.invariant.ranks;
}
