use Rattle.std.proofs.Common.{◌∙◌}
use Rattle.fab_model.specs.Peers.{is_finished}
use Rattle.fab_finish.specs.Joined.{member_actor}
use Rattle.fab_top.proofs.Parts.{list_all-map}
use Rattle.fab_top.proofs.whole.all_done.Goals as goal

pub returns : goal.returns
returns g c = c.all_finished.ensures ∙ list_all-map is_finished member_actor c.args.peers.now
