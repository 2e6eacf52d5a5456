use Rattle.std.proofs.Common.{◌≡◌, ◌∙◌}
use Rattle.fabric.specs.Beginning.{IsFresh, work_of}
use Rattle.fabric.specs.Words.{Allgather, Collective}
use Rattle.mini_mpi.specs.Collecting.{standing_of}
use Rattle.mini_mpi.proofs.Collecting.{collected, of_ok, on_ok}
use Rattle.mini_mpi.proofs.Pieces.{copied}
use Rattle.mini_mpi.proofs.world.World.allgather.Goals as goal

pub returns-clause-gives : goal.returns-clause-gives
returns-clause-gives g c =
    let begun = c.in_ok-collective.collective in
    let is = of_ok c.allgather.result begun (λ (d : Collective). (d.own ≡ c.in_ok-share.share) × (d.work ≡ work_of c.args.self.now.group Allgather) × IsFresh d) c.in_ok-collective.ensures c.allgather.ensures.begun in
    let next = on_ok c.allgather.result begun _ c.in_ok-collective.ensures c.allgather.ensures.next in
    let old = standing_of c.args.self.now.group (g.E.Sees.seen c.args.self.now.endpoint) c.args.self.now.begun in
    let new = standing_of c.complete.new.self.group (g.E.Sees.seen c.complete.new.self.endpoint) c.complete.new.self.begun in
    let one = collected g.E.Sees.fixed Allgather (c.args.own.now) c.args.self.now.group c.allgather.new.self c.complete.new.self.group begun old.rank new.rank c.in_ok-bytes.bytes
    (is.0 ∙ c.in_ok-share.ensures, is.1, is.2) next.0 c.complete.ensures.ranks c.in_ok-bytes.ensures.done in
    let same : c.as_slice.result.now ≡ c.in_ok-bytes.bytes = c.as_slice.ensures in
    copied g.E.Sees.fixed Allgather c.args.own.now c.fill.new.into c.in_ok-bytes.bytes c.as_slice.result.now old new _ c.fill.result same one c.fill.ensures.ok
