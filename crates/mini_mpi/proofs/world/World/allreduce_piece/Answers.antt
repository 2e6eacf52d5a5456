use Rattle.std.proofs.Common.{◌≡◌, ◌∙◌}
use Rattle.fabric.specs.Beginning.{IsFresh, work_of}
use Rattle.fabric.specs.Words.{Allreduce, Collective}
use Rattle.mini_mpi.specs.Collecting.{piece_at, standing_of}
use Rattle.mini_mpi.proofs.Collecting.{collected, of_ok, on_ok}
use Rattle.mini_mpi.proofs.Pieces.{placed}
use Rattle.mini_mpi.proofs.world.World.allreduce_piece.Goals as goal

pub returns-clause-piece : goal.returns-clause-piece
returns-clause-piece g c =
    let begun = c.in_ok-collective.collective in
    let is = of_ok c.allreduce.result begun (λ (d : Collective). (d.own ≡ c.in_ok-share.share) × (d.work ≡ work_of c.args.self.now.group (Allreduce c.args.op c.args.num)) × IsFresh d) c.in_ok-collective.ensures c.allreduce.ensures.begun in
    let next = on_ok c.allreduce.result begun _ c.in_ok-collective.ensures c.allreduce.ensures.next in
    let old = standing_of c.args.self.now.group (g.E.Sees.seen c.args.self.now.endpoint) c.args.self.now.begun in
    let new = standing_of c.complete.new.self.group (g.E.Sees.seen c.complete.new.self.endpoint) c.complete.new.self.begun in
    let one = collected g.E.Sees.fixed (Allreduce c.args.op c.args.num) (piece_at c.args.bytes.now c.args.at) c.args.self.now.group c.allreduce.new.self c.complete.new.self.group begun old.rank new.rank c.in_ok-given.given
    (is.0 ∙ c.in_ok-share.ensures, is.1, is.2) next.0 c.complete.ensures.ranks c.in_ok-given.ensures.done in
    let same : c.as_slice.result.now ≡ c.in_ok-given.given = c.as_slice.ensures in
    placed g.E.Sees.fixed (Allreduce c.args.op c.args.num) c.args.at c.args.bytes.now c.fill_at.new.into c.in_ok-given.given c.as_slice.result.now old new c.fill_at.result same one c.fill_at.ensures.long c.fill_at.ensures.filled
