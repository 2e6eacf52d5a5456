use Rattle.std.proofs.Common.{ℕ, ◌<◌, ◌∙◌, length, refl, subst}
use Rattle.fabric.specs.Words.{Broadcast}
use Rattle.mini_mpi.specs.Collecting.{standing_of}
use Rattle.mini_mpi.proofs.Pieces.{none_pieced, one_piece, within}
use Rattle.mini_mpi.proofs.world.World.bcast.Goals as goal

pub pieces-init : goal.pieces-init
pieces-init g c = record {
  pieced = none_pieced g.E.Sees.fixed (Broadcast c.args.root) c.args.bytes.now (standing_of c.args.self.now.group (g.E.Sees.seen c.args.self.now.endpoint) c.args.self.now.begun);
  ranks = (refl, refl);
}

pub pieces-preserved : goal.pieces-preserved
pieces-preserved g c = record {
  pieced = one_piece g.E.Sees.fixed (Broadcast c.args.root) c.pieces.n c.args.bytes.now c.pieces.bytes c.bcast_piece.new.bytes _ _ _ c.pieces.invariant.pieced
      (within (length c.args.bytes.now) c.pieces.n (subst (λ (m : ℕ). c.pieces.n < m) c.div_ceil-n-end.ensures c.pieces-test.true)) c.in_ok-bcast_piece.ensures.piece;
  ranks = (c.bcast_piece.ensures.ranks.0 ∙ c.pieces.invariant.ranks.0, c.bcast_piece.ensures.ranks.1 ∙ c.pieces.invariant.ranks.1);
}
