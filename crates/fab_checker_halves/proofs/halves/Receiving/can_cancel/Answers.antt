use Rattle.std.proofs.Common.{◌∙◌, ap}
use Rattle.std.specs.Prelude.{is_some}
use Rattle.fab_model.specs.Receiving.{may_leave}
use Rattle.fab_model.proofs.Firsts.{is_some-position}
use Rattle.fab_checker_halves.specs.Seen.{rx_of}
use Rattle.fab_checker_halves.specs.Places.{chosen}
use Rattle.fab_checker_halves.proofs.halves.Receiving.can_cancel.Goals as goal

pub returns : goal.returns
returns c = c.is_some.ensures ∙ ap is_some c.place_of_cancellable.ensures ∙ is_some-position (may_leave (rx_of c.args.self.now) (chosen c.args.which)) c.args.self.now.posted.items
