use Rattle.std.proofs.Common.{Option, List, ℕ, Ok, ◌∙◌, refl, subst}
use Rattle.fabric.specs.Driving.{Drives}
use Rattle.mini_mpi.specs.Going.{rank_of}
use Rattle.mini_mpi.proofs.Collecting.{begins, completes, one_turn}
use Rattle.mini_mpi.proofs.world.World.complete.Goals as goal

pub loop-init : goal.loop-init
loop-init g c = record { part = begins g.E.Sees.fixed c.args.collective (rank_of (g.E.Sees.seen c.args.self.now.endpoint) c.args.self.now.begun) c.requires.fresh; ranks = refl }

pub returns-in-Some-2-clause-done : goal.returns-in-Some-2-clause-done
returns-in-Some-2-clause-done g c = let e = c.in_ok-bytes.ensures in completes g.E.Sees.fixed c.args.collective (rank_of (g.E.Sees.seen c.args.self.now.endpoint) c.args.self.now.begun) _ _ c.drive.new.self
    c.in_ok-bytes.field-0 c.in-Some-2.bytes c.in-Some-2.is c.loop.invariant.part
    (record { drives = e.drives; same = refl; messages = (e.work, e.own, e.received, e.counts.0, e.counts.1) }) e.waits e.whole e.made

pub loop-preserved : goal.loop-preserved
loop-preserved g c = let e = c.in_ok-bytes.ensures in record {
  part = one_turn g.E.Sees.fixed c.args.collective (rank_of (g.E.Sees.seen c.args.self.now.endpoint) c.args.self.now.begun) c.in_ok-progress_for.ensures.heard.0 _ _ _ c.loop.invariant.part
      (record {
        drives = subst (λ (o : Option (List ℕ)). Drives g.E.Sees.fixed c.loop.collective c.drive.new.self (g.E.Sees.seen c.loop.self.endpoint) (g.E.Sees.seen c.drive.new.endpoint) (Ok o)) c.in-None-2.is e.drives;
        same = refl;
        messages = (e.work, e.own, e.received, e.counts.0, e.counts.1);
      }) c.in_ok-progress_for.ensures.heard.1;
  ranks = c.in_ok-progress_for.ensures.ranks ∙ c.loop.invariant.ranks;
}
