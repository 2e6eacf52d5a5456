use Rattle.std.proofs.Common.{refl}
use Rattle.fab_app.specs.Within.{MovesOnce}
use Rattle.fab_app.proofs.Chains.{moved_on, none}
use Rattle.fab_app.proofs.Counting.{moved_once, one_more}
use Rattle.fab_app.proofs.Polling.{moves_lack}
use Rattle.fab_app.proofs.endpoint.Endpoint.flush.Goals as goal

pub returns-in_err-progress-clause-moved : goal.returns-in_err-progress-clause-moved
returns-in_err-progress-clause-moved g c = moved_on _ _ _ _ _ _ c.times.invariant.before c.progress.ensures

pub times-preserved : goal.times-preserved
times-preserved g c = record {
  before = moved_on _ _ _ _ _ _ c.times.invariant.before c.progress.ensures;
  moved = one_more (MovesOnce g.E.Sees.fixed 64) c.times._time _ _ _ c.times.invariant.moved (moved_once _ _ _ _ c.progress.result c.progress.ensures);
}

pub times-init : goal.times-init
times-init g c = record { before = none _; moved = refl }

pub returns-in_err-progress-clause-lacks : goal.returns-in_err-progress-clause-lacks
returns-in_err-progress-clause-lacks g c = moves_lack c.from_residual.result _ _ _ _ _ c.in_err-progress.ensures
