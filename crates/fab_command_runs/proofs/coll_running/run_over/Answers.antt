use Rattle.std.proofs.Common.{List, ap, length, subst, sym, ◌∙◌}
use Rattle.fab_finish.specs.Joined.{Member, actors}
use Rattle.fab_workload_laws.specs.CollLaws.{FoldsIn}
use Rattle.fab_command_runs.proofs.Rounds.{as_many, folds_at_rest, sized}
use Rattle.fab_command_runs.proofs.coll_running.run_over.Goals as goal

pub coll_text-requires-clause-count : goal.coll_text-requires-clause-count
coll_text-requires-clause-count g c =
    let s = c.args.script.now in
    let many = as_many s.peers s.rounds c.args.bound.now c.requires.plan c.in_ok-peers.peers.items c.in_ok-peers.ensures.reached in
    ap length c.deref.ensures.value ∙ many

pub coll_text-requires-clause-folds : goal.coll_text-requires-clause-folds
coll_text-requires-clause-folds g c =
    let s = c.args.script.now in
    let e = c.in_ok-peers.ensures in
    let peers = c.in_ok-peers.peers.items in
    let folds = folds_at_rest s.peers s.rounds c.args.bound.now c.requires.plan c.law_rounds_done.ensures.folds c.requires.within peers e.reached e.rest in
    subst (λ (ps : List Member). FoldsIn s.peers s.rounds (actors ps)) (sym c.deref.ensures.value) folds

pub ready_bound-requires-clause-sized : goal.ready_bound-requires-clause-sized
ready_bound-requires-clause-sized g c = sized c.args.script.now.peers c.args.script.now.rounds c.args.bound.now c.requires.plan c.requires.within

pub run_ready-requires-clause-log : goal.run_ready-requires-clause-log
run_ready-requires-clause-log g c κs live = (sized c.args.script.now.peers c.args.script.now.rounds c.args.bound.now c.requires.plan c.requires.within).log

pub run_ready-requires-clause-peers : goal.run_ready-requires-clause-peers
run_ready-requires-clause-peers g c κs live = (sized c.args.script.now.peers c.args.script.now.rounds c.args.bound.now c.requires.plan c.requires.within).peers.1
