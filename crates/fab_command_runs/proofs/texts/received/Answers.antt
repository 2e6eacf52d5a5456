use Rattle.fab_command_runs.proofs.Telling.{taken_more}
use Rattle.fab_command_runs.proofs.texts.received.Goals as goal

pub loop-line-preserved : goal.loop-line-preserved
loop-line-preserved c =
    taken_more c.args.results.now c.loop-line.line-index c.line-item.result c.loop-line.shares.items c.add_taken.new.shares.items _ c.loop-line-test.true c.line-item.is c.loop-line.invariant c.in_ok-add_taken.ensures
