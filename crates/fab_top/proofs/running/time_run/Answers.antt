use Rattle.fab_top.proofs.Workloads.{always_done, cq_enough, sized}
use Rattle.fab_top.proofs.running.time_run.Goals as goal

pub time_script-requires-clause-cq : goal.time_script-requires-clause-cq
time_script-requires-clause-cq g c κs live = cq_enough c.args.workload c.requires.script.0 c.args.script.now c.requires.script.1

pub time_script-requires-clause-sized : goal.time_script-requires-clause-sized
time_script-requires-clause-sized g c κs live = sized c.args.workload c.requires.script.0 c.args.script.now c.requires.within c.requires.script.1

pub returns-clause-done : goal.returns-clause-done
returns-clause-done g c = always_done c.law_workloads_done.ensures.done c.args.workload c.requires.script.0 c.args.script.now c.in_ok-timed.timed.done c.requires.within c.requires.script.1 c.in_ok-timed.ensures.rests
