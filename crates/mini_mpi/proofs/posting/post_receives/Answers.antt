use Rattle.std.proofs.Common.{inl, refl}
use Rattle.mini_mpi.specs.Going.{rank_of}
use Rattle.mini_mpi.proofs.Going.{each_after, goes_all}
use Rattle.mini_mpi.proofs.posting.post_receives.Goals as goal

pub returns-then-not-may_take-clause-all : goal.returns-then-not-may_take-clause-all
returns-then-not-may_take-clause-all g c = record {
  mid = rank_of (g.E.Sees.seen c.post_first_receives.new.endpoint) c.post_first_receives.new.begun;
  goes = c.post_first_receives.ensures.goes;
  tries = inl (c.may_take.ensures.no c.if-not-may_take.true, refl);
}

pub returns-clause-all : goal.returns-clause-all
returns-clause-all g c = each_after g.E.Sees.fixed _ (rank_of (g.E.Sees.seen c.post_first_receives.new.endpoint) c.post_first_receives.new.begun) _ c.reserve.new.self.items
    c.post_first_receives.ensures.goes c.reserve.ensures.items c.post_each_receive.ensures

pub returns-clause-goes : goal.returns-clause-goes
returns-clause-goes g c = goes_all g.E.Sees.fixed _ _ (each_after g.E.Sees.fixed _ (rank_of (g.E.Sees.seen c.post_first_receives.new.endpoint) c.post_first_receives.new.begun) _ c.reserve.new.self.items
    c.post_first_receives.ensures.goes c.reserve.ensures.items c.post_each_receive.ensures)
