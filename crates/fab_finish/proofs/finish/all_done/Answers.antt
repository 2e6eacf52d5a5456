use Rattle.std.proofs.Common.{◌∙◌}
use Rattle.fab_finish.proofs.Ending.{done_is}
use Rattle.fab_finish.proofs.finish.all_done.Goals as goal

pub returns : goal.returns
returns g c = c.each_finished.ensures ∙ done_is c.args.peers.now
