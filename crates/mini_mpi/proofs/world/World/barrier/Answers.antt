use Rattle.std.proofs.Common.{◌≡◌, []}
use Rattle.fabric.specs.Beginning.{IsFresh, work_of}
use Rattle.fabric.specs.Words.{Barrier, Collective}
use Rattle.mini_mpi.proofs.Collecting.{collected, of_ok, on_ok}
use Rattle.mini_mpi.proofs.world.World.barrier.Goals as goal

pub returns-clause-passed : goal.returns-clause-passed
returns-clause-passed g c =
    let begun = c.in_ok-collective.collective in (
      c.in_ok-complete.field-0,
      collected g.E.Sees.fixed Barrier [] c.args.self.now.group c.barrier.new.self c.complete.new.self.group begun _ _ c.in_ok-complete.field-0
          (of_ok c.barrier.result begun (λ (d : Collective). (d.own ≡ []) × (d.work ≡ work_of c.args.self.now.group Barrier) × IsFresh d) c.in_ok-collective.ensures c.barrier.ensures.begun)
          (on_ok c.barrier.result begun _ c.in_ok-collective.ensures c.barrier.ensures.next) c.complete.ensures.ranks c.in_ok-complete.ensures.done,
    )
