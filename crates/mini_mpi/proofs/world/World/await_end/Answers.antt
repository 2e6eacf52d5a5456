use Rattle.std.proofs.Common.{ap, inl, inr, refl, ◌∙◌}
use Rattle.mini_mpi.specs.Going.{rank_of}
use Rattle.mini_mpi.proofs.Going.{goes_as, goes_then, lacks_after, told_lacks}
use Rattle.mini_mpi.proofs.world.World.await_end.Goals as goal

pub returns-in_err-progress-clause-awaited : goal.returns-in_err-progress-clause-awaited
returns-in_err-progress-clause-awaited g c = record {
  mid = rank_of (g.E.Sees.seen c.progress.new.self.endpoint) c.progress.new.self.begun;
  goes = goes_then g.E.Sees.fixed _ _ _ c.loop.invariant.goes c.progress.ensures.goes;
  gives = inr (told_lacks c.from_residual.result c.in_err-progress.field-0.0 c.from_residual.ensures.1 c.in_err-progress.ensures.err, refl, lacks_after g.E.Sees.fixed _ _ _ c.progress.new.self.begun c.loop.invariant.goes c.in_err-progress.ensures.lacks);
}

pub returns-in-Some-take_ended-clause-awaited : goal.returns-in-Some-take_ended-clause-awaited
returns-in-Some-take_ended-clause-awaited g c = let first = c.in-Some-take_ended.ensures.first in record {
  mid = rank_of (g.E.Sees.seen c.progress.new.self.endpoint) c.progress.new.self.begun;
  goes = goes_then g.E.Sees.fixed _ _ _ c.loop.invariant.goes c.progress.ensures.goes;
  gives = inl (record { at = first.0; found = first.1; ends = (c.in-Some-take_ended.ended, first.2, refl, first.3); same = refl });
}

pub loop-preserved : goal.loop-preserved
loop-preserved g c = record {
  goes = goes_as g.E.Sees.fixed _ (rank_of (g.E.Sees.seen c.progress.new.self.endpoint) c.progress.new.self.begun) _ (goes_then g.E.Sees.fixed _ _ _ c.loop.invariant.goes c.progress.ensures.goes)
      (ap (λ vec. record (rank_of (g.E.Sees.seen c.progress.new.self.endpoint) c.progress.new.self.begun) { ended = vec.items }) c.in-None-take_ended.ensures.none);
  ranks = c.progress.ensures.ranks ∙ c.loop.invariant.ranks;
}
