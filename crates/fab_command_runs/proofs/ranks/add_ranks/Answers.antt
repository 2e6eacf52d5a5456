use Rattle.std.proofs.Common.{List, arith, subst, sym, ◌∙◌}
use Rattle.fab_base.specs.declared.peers.LineResult.{LineResult}
use Rattle.fab_workload_laws.specs.CollLaws.{RankFolds}
use Rattle.fab_command_runs.proofs.Rounds.{results_at}
use Rattle.fab_command_runs.proofs.Telling.{rank_told}
use Rattle.fab_command_runs.proofs.ranks.add_ranks.Goals as goal

pub add_rank-requires-clause-folds : goal.add_rank-requires-clause-folds
add_rank-requires-clause-folds g c =
    let ps = c.args.peers.now in
    let r = c.loop-r.r in
    let x = c.index-peers-r.result in
    subst (λ (results : List LineResult). RankFolds c.args.script.now.peers c.args.script.now.rounds r results)
    (results_at ps r x (omega (arith, c.requires.count, c.loop-r-test.true)) c.index-peers-r.is ∙ sym c.results.ensures) (c.requires.folds r c.loop-r-test.true)

pub loop-r-preserved : goal.loop-r-preserved
loop-r-preserved g c = rank_told c.args.script.now.rounds c.loop-r.r _ _ _ c.loop-r.invariant c.in_ok-add_rank.ensures
