use Rattle.std.proofs.Common.{◌≡◌}
use Rattle.fabric.specs.Words.{Allreduce}
use Rattle.mini_mpi.specs.Collecting.{standing_of}
use Rattle.mini_mpi.proofs.Pieces.{Pieced}
use Rattle.mini_mpi.proofs.world.World.allreduce.Given as goal

abbrev pub invariant-pieces : goal.invariant-pieces
invariant-pieces g l = record {
  pieced : Pieced g.E.Sees.fixed (Allreduce l.fn.op l.fn.num) l.n l.fn.bytes l.bytes (standing_of l.fn.self.group (g.E.Sees.seen l.fn.self.endpoint) l.fn.self.begun) (standing_of l.self.group (g.E.Sees.seen l.self.endpoint) l.self.begun);
  ranks : (l.self.group.rank ≡ l.fn.self.group.rank) × (l.self.group.peers ≡ l.fn.self.group.peers);
}
