use Rattle.std.proofs.Common.{List, map, subst}
use Rattle.fab_model.specs.Calls.{upto}
use Rattle.fab_model.specs.Orders.{Reached}
use Rattle.fab_model.specs.Peers.{Actor, fabric}
use Rattle.fab_model.specs.Replay.{lines_of}
use Rattle.fab_model.specs.Views.{rule}
use Rattle.fab_finish.specs.Joined.{actors, schedules}
use Rattle.fab_rounds.proofs.Bounding.{opening_is}
use Rattle.fab_rounds.proofs.PhaseLists.{ok_then}
use Rattle.fab_rounds.proofs.scripts.run_ready.Goals as goal

pub run_phases-requires-clause-ready : goal.run_phases-requires-clause-ready
run_phases-requires-clause-ready g c κs live = (map (lines_of c.args.bound.now) (upto c.args.bound.now.script.conf.peers), c.requires.ready)

pub returns-clause-reached : goal.returns-clause-reached
returns-clause-reached g c =
    let b = c.args.bound.now in
    ok_then _ (λ peers. Reached (rule fabric) _ (schedules peers.items) (actors peers.items)) (λ peers reached. subst (λ (first : List Actor). Reached (rule fabric) first (schedules peers.items) (actors peers.items)) (opening_is b) (reached (map (lines_of b) (upto b.script.conf.peers)) c.requires.ready))
    c.run_phases.result c.run_phases.ensures.reached
