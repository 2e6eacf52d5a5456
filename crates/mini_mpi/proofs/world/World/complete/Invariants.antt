use Rattle.std.proofs.Common.{◌≡◌}
use Rattle.mini_mpi.specs.Collecting.{member_of}
use Rattle.mini_mpi.specs.Going.{rank_of}
use Rattle.mini_mpi.proofs.Collecting.{Partly}
use Rattle.mini_mpi.proofs.world.World.complete.Given as goal

abbrev pub invariant-loop : goal.invariant-loop
invariant-loop g l = record {
  part : Partly g.E.Sees.fixed l.fn.collective (rank_of (g.E.Sees.seen l.fn.self.endpoint) l.fn.self.begun) (member_of (g.E.Sees.seen l.self.endpoint) l.self.begun l.collective);
  ranks : l.self.group ≡ l.fn.self.group;
}
