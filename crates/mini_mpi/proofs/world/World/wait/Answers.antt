use Rattle.std.proofs.Common.{inl, refl}
use Rattle.mini_mpi.specs.Going.{rank_of}
use Rattle.mini_mpi.proofs.Going.{stays}
use Rattle.mini_mpi.proofs.world.World.wait.Goals as goal

pub returns-in-Some-clause-awaited : goal.returns-in-Some-clause-awaited
returns-in-Some-clause-awaited g c = let first = c.in-Some.ensures.first in record {
  mid = rank_of (g.E.Sees.seen c.args.self.now.endpoint) c.args.self.now.begun;
  goes = stays g.E.Sees.fixed _ _ refl;
  gives = inl (record { at = first.0; found = first.1; ends = (c.in-Some.ended, first.2, refl, first.3); same = refl });
}
