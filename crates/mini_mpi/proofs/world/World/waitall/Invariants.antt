use Rattle.std.proofs.Common.{◌≡◌}
use Rattle.mini_mpi.specs.Going.{rank_of}
use Rattle.mini_mpi.specs.Waiting.{EndAll, ids_of}
use Rattle.mini_mpi.proofs.world.World.waitall.Given as goal

abbrev pub invariant-requests : goal.invariant-requests
invariant-requests g l = record {
  all : EndAll g.E.Sees.fixed (ids_of l.yielded) (rank_of (g.E.Sees.seen l.fn.self.endpoint) l.fn.self.begun) (rank_of (g.E.Sees.seen l.self.endpoint) l.self.begun) l.all;
  ranks : l.self.group ≡ l.fn.self.group;
}
