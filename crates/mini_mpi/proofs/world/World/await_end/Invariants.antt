use Rattle.std.proofs.Common.{◌≡◌}
use Rattle.mini_mpi.specs.Going.{Goes, rank_of}
use Rattle.mini_mpi.proofs.world.World.await_end.Given as goal

abbrev pub invariant-loop : goal.invariant-loop
invariant-loop g l = record {
  goes : Goes g.E.Sees.fixed (rank_of (g.E.Sees.seen l.fn.self.endpoint) l.fn.self.begun) (rank_of (g.E.Sees.seen l.self.endpoint) l.self.begun);
  ranks : l.self.group ≡ l.fn.self.group;
}
